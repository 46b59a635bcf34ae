-- The worker in a handle: what C tells it, and what it is shown.
use Rattle.std.specs.Prelude.{◌≡◌, ◌<◌, ℕ, Bool, true, false, ◌&&◌, not, ◌==◌, is_some, min, nat_le, nat_lt, List, length, take, Option, None, Some}
use Rattle.sb_call.specs.declared.replies.Answer.{Answer}
use Rattle.sb_actor.specs.Observations.{Observation, Turn, Value}
use Rattle.sb_actor.specs.declared.acts.Act.{Act}
use Rattle.sb_actor.specs.declared.acts.Act.TheVariants as act
use Rattle.sb_host.specs.HostWorkers.{HostAt, after_step, copy_to_answer, host_plan, values_to_store}
use Rattle.sb_c.specs.Owning.{Content}
use Rattle.sb_c.specs.declared.helds.Held.TheVariants as held
use Rattle.sb_c.specs.declared.shapes.HostAnswer.{HostAnswer}
use Rattle.sb_c.specs.declared.statuses.Status.{Status}
use Rattle.sb_c.specs.declared.statuses.Status.TheVariants as status

-- a worker is there, and this holds of it
abbrev pub is_worker : (HostAt → Bool) → Option HostAt → Bool
is_worker test None = false
is_worker test (Some h) = test h

-- what a worker tells, and something else if there is none
abbrev pub told_by : {A : Type 0} → (HostAt → A) → A → Option HostAt → A
told_by tell otherwise None = otherwise
told_by tell otherwise (Some h) = tell h

-- what is there after this was done to its worker
abbrev pub changed : (HostAt → HostAt) → Content → Content
changed f (held.Worker h) = held.Worker (f h)
changed f (held.Policies set) = held.Policies set
changed f (held.Space ns) = held.Space ns

abbrev pub with_worker : (HostAt → HostAt) → Option Content → Option Content
with_worker f None = None
with_worker f (Some content) = Some (changed f content)

-- a target has 1 to 8 channels
abbrev pub is_channel_count : ℕ → Bool
is_channel_count channels = nat_lt 0 channels && nat_le channels 8

-- the status of a new worker: it is in the handle, there are too few or too many channels or the handle holds something, or there was no memory
abbrev pub IsNewWorker : HostAt → ℕ → Option Content → Option Content → Option Status → Type 0
IsNewWorker h channels old new (Some status.Ok) = (is_channel_count channels ≡ true) × (old ≡ None) × (new ≡ Some (held.Worker h))
IsNewWorker h channels old new (Some status.BadCall) = (is_channel_count channels && not (is_some old)) ≡ false
IsNewWorker h channels old new (Some status.NoMemory) = (is_channel_count channels ≡ true) × (old ≡ None)
IsNewWorker h channels old new _ = ⊥

-- at the turn any number but 0 says that it was taken; at any other step the number is the value that was found
abbrev pub found_at : Act → ℕ → Observation
found_at act.Take found = Turn (not (found == 0))
found_at act.Idle found = Value found
found_at (act.Load t w) found = Value found
found_at (act.Store t w v) found = Value found
found_at (act.Exchange t w from to) found = Value found
found_at act.Answer found = Value found
found_at act.Give found = Value found

-- its next step is not the answer
abbrev pub can_step : HostAt → Bool
can_step h = not (is_some (copy_to_answer h))

-- a worker after its next step, at which C found this
abbrev pub step_found : ℕ → HostAt → HostAt
step_found found h = after_step h (found_at (host_plan h) found)

-- the status of the values that a worker stores next: they are at the front of the room, it has less room, or no worker is there
abbrev pub AreValues : Option HostAt → ℕ → ℕ → List ℕ → Option Status → Type 0
AreValues (Some h) room count front (Some status.Ok) = (front ≡ values_to_store h) × (length front ≡ count)
AreValues (Some h) room count front (Some status.NoRoom) = room < length (values_to_store h)
AreValues None room count front (Some status.BadCall) = Unit {0}
AreValues h room count front _ = ⊥

-- the answer of a host, with at most seven extended words
abbrev pub answer_in : HostAnswer → Answer
answer_in a = record { status = a.status; handle = a.handle; ext = take (min a.count 7) a.words }
