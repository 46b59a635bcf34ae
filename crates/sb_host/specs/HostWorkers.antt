-- The worker of a host: its next step, and what each call of the host makes of it. A call that does not fit changes nothing.
use Rattle.std.specs.Prelude.{◌≡◌, ℕ, zero, suc, ◌+◌, Bool, true, false, ◌&&◌, not, nat_le, nat_lt, List, [], ◌∷◌, length, Option, None, Some, is_some, Result, Ok, Err, ⊤, if◌then◌else◌}
use Rattle.sb_call.specs.declared.arguments.Arg.{Arg}
use Rattle.sb_call.specs.declared.replies.Answer.{Answer as HostAnswer}
use Rattle.sb_call.specs.declared.replies.Reply.{Reply as HostReply}
use Rattle.sb_block.specs.Calls.{decoded}
use Rattle.sb_block.specs.Copies.{Copied, mark_of}
use Rattle.sb_block.specs.declared.calls.Call.{Call}
use Rattle.sb_block.specs.declared.faults.BlockFault.{BlockFault}
use Rattle.sb_rule.specs.declared.policies.Policy.{Policy}
use Rattle.sb_kernel.specs.Namespaces.{Space}
use Rattle.sb_book.specs.Decisions.{decision_of, is_fitting}
use Rattle.sb_book.specs.Histories.{reply_of, space_after}
use Rattle.sb_book.specs.Rulings.{args_of}
use Rattle.sb_book.specs.declared.decisions.Decision.{Decision}
use Rattle.sb_actor.specs.Acts.{state_word, ready, abandoned}
use Rattle.sb_actor.specs.Observations.{Observation, Answered, Done, Value}
use Rattle.sb_actor.specs.WorkerStages.{WorkerAt, WorkerStage, Look, Count, End, Copy, Take, Answer, Give, Reply, Ack}
use Rattle.sb_actor.specs.WorkerTable.{worker_plan, worker_after}
use Rattle.sb_actor.specs.declared.acts.Act.{Act}
use Rattle.sb_actor.specs.declared.acts.Act.TheVariants as act
use Rattle.sb_host.specs.Moves.{is_copying_at, moves_left, place_in_reply, values_left}
use Rattle.sb_host.specs.Replies.{host_reply, takes_space}
use Rattle.sb_host.specs.declared.host_workers.Undecided.{Undecided}
use Rattle.sb_host.specs.declared.host_workers.Undecided.TheVariants.{Unfit, NoMemory}

-- a worker, how many channels it has taken over, and what is decided of its copy, from the decision until the reply
pub record HostAt : Type 0 where
  pub worker : WorkerAt
  pub taken_over : ℕ
  pub decision : Option Decision

-- a worker of target 0 before its first step
abbrev pub first_worker : ℕ → WorkerAt
first_worker channels = record { target = 0; channels = channels; channel = 0; stage = Look }

-- the worker of channels that had none, and that of channels that had one
abbrev pub host_start : ℕ → HostAt
host_start channels = record { worker = first_worker channels; taken_over = channels; decision = None }

abbrev pub host_adopt : ℕ → HostAt
host_adopt channels = record { worker = first_worker channels; taken_over = 0; decision = None }

-- it still takes over channels
abbrev pub is_taking_over : HostAt → Bool
is_taking_over h = nat_lt h.taken_over h.worker.channels

-- its one next step: a block that was handed over to an earlier worker is given up, one channel after another, and then it serves
abbrev pub host_plan : HostAt → Act
host_plan h = if is_taking_over h then act.Exchange h.worker.target (state_word h.taken_over) ready abandoned else worker_plan h.worker

-- the step is the answer
abbrev pub is_answer : Act → Bool
is_answer act.Answer = true
is_answer (act.Load t w) = false
is_answer (act.Store t w v) = false
is_answer (act.Exchange t w from to) = false
is_answer act.Take = false
is_answer act.Give = false
is_answer act.Idle = false

-- the copy that is to be answered next
abbrev pub copy_at : WorkerStage → Option Copied
copy_at (Answer taken) = Some taken
copy_at Look = None
copy_at Count = None
copy_at (End count) = None
copy_at (Copy count end words) = None
copy_at (Take taken) = None
copy_at (Give taken reply) = None
copy_at (Reply taken reply i) = None
copy_at (Ack taken reply) = None

abbrev pub copy_to_answer : HostAt → Option Copied
copy_to_answer h = if is_taking_over h then None else copy_at h.worker.stage

-- after its next step, which found this; the answer is no step on a word
abbrev pub after_step : HostAt → Observation → HostAt
after_step h seen =
    if is_taking_over h then record h { taken_over = h.taken_over + 1 }
    else (if is_some (copy_at h.worker.stage) then h
    else record h { worker = worker_after h.worker seen })

-- how many of its next steps move one word of the block or of the reply each
abbrev pub host_moves : HostAt → ℕ
host_moves h = if is_taking_over h then 0 else moves_left h.worker.stage

-- its next step loads a word of the block into the copy
abbrev pub is_copying : HostAt → Bool
is_copying h = not (is_taking_over h) && is_copying_at h.worker.stage

-- this many of its next steps do
abbrev pub can_load : HostAt → ℕ → Bool
can_load h count = is_copying h && nat_le count (moves_left h.worker.stage)

-- the place in the reply of the word that its next step stores, if it stores one
abbrev pub place_to_store : HostAt → Option ℕ
place_to_store h = if is_taking_over h then None else place_in_reply h.worker.stage

-- this many of its next steps store a word of the reply
abbrev pub can_store : HostAt → ℕ → Bool
can_store h count = is_some (place_to_store h) && nat_le count (moves_left h.worker.stage)

-- after steps that found these values, one after another
abbrev pub after_values : HostAt → List ℕ → HostAt
after_values h [] = h
after_values h (value ∷ values) = after_values (after_step h (Value value)) values

-- after this many steps that found nothing
abbrev pub after_dones : HostAt → ℕ → HostAt
after_dones h zero = h
after_dones h (suc n) = after_dones (after_step h Done) n

-- after loads in a row that found these values
abbrev pub after_loads : HostAt → List ℕ → HostAt
after_loads h values = if can_load h (length values) then after_values h values else h

-- after this many stores in a row
abbrev pub after_stores : HostAt → ℕ → HostAt
after_stores h count = if can_store h count then after_dones h count else h

-- the values that its next steps store
abbrev pub values_to_store : HostAt → List ℕ
values_to_store h = if is_taking_over h then [] else values_left h.worker.stage

-- there is a copy to answer, and nothing is decided of it yet; and there is a policy of this number
abbrev pub can_decide : HostAt → ℕ → ℕ → Bool
can_decide h policies policy = nat_lt policy policies && is_some (copy_to_answer h) && not (is_some h.decision)

-- nothing was decided since it did not fit, or though it did
abbrev pub IsUnfit : Bool → Undecided → Type 0
IsUnfit can Unfit = can ≡ false
IsUnfit can NoMemory = can ≡ true

-- or since there was no memory for the call that the copy asks for
abbrev pub LacksMemory : Bool → Undecided → Type 0
LacksMemory asks Unfit = ⊤
LacksMemory asks NoMemory = asks ≡ true

-- the policy decides the copy
abbrev pub decided_by : HostAt → Policy → Option Copied → HostAt
decided_by h policy None = h
decided_by h policy (Some copy) = record h { decision = Some (decision_of policy copy) }

abbrev pub after_decision : HostAt → Policy → HostAt
after_decision h policy = decided_by h policy (copy_to_answer h)

-- the arguments that are granted; only a call that is performed has any
abbrev pub granted_args : Option Decision → List Arg
granted_args None = []
granted_args (Some d) = args_of d

-- the call that a copy asks for
abbrev pub call_if_ok : Result Call BlockFault → Option Call
call_if_ok (Ok call) = Some call
call_if_ok (Err fault) = None

abbrev pub asked_in : Option Copied → Option Call
asked_in None = None
asked_in (Some copy) = call_if_ok (decoded copy)

-- the call that the copy to answer asks for, whatever is decided of it
abbrev pub asked : HostAt → Option Call
asked h = asked_in (copy_to_answer h)

-- there is a copy to answer, and it is decided
abbrev pub can_reply : HostAt → Bool
can_reply h = is_some (copy_to_answer h) && is_some h.decision

-- the worker goes on by this reply, and nothing is decided of its next copy
abbrev pub replied : HostAt → HostReply → HostAt
replied h reply = record h { worker = worker_after h.worker (Answered reply); decision = None }

-- after the host's answer
abbrev pub after_answer_to : HostAt → HostAnswer → Option Copied → Option Decision → HostAt
after_answer_to h answer (Some copy) (Some d) = replied h (host_reply (mark_of copy) d answer)
after_answer_to h answer (Some copy) None = h
after_answer_to h answer None decision = h

abbrev pub after_answer : HostAt → HostAnswer → HostAt
after_answer h answer = after_answer_to h answer (copy_to_answer h) h.decision

-- after the answer of a namespace of the product's own
abbrev pub after_performing_on : HostAt → Space → ℕ → Option Copied → Option Decision → HostAt
after_performing_on h ns target (Some copy) (Some d) = replied h (reply_of ns target (mark_of copy) d)
after_performing_on h ns target (Some copy) None = h
after_performing_on h ns target None decision = h

abbrev pub after_performing : HostAt → Space → ℕ → HostAt
after_performing h ns target = after_performing_on h ns target (copy_to_answer h) h.decision

-- the namespace after it
abbrev pub space_by : Option Copied → Option Decision → Space → ℕ → Space
space_by (Some copy) (Some d) ns target = space_after ns target d
space_by (Some copy) None ns target = ns
space_by None decision ns target = ns

abbrev pub space_after_performing : HostAt → Space → ℕ → Space
space_after_performing h ns target = space_by (copy_to_answer h) h.decision ns target

-- the namespace needs memory for what is decided of a copy
abbrev pub takes_space_for : Option Decision → Space → ℕ → Bool
takes_space_for None ns target = false
takes_space_for (Some d) ns target = takes_space ns target d

-- what is decided has arguments that fit its call
abbrev pub is_fitting_if_decided : Option Decision → Bool
is_fitting_if_decided None = true
is_fitting_if_decided (Some d) = is_fitting d
