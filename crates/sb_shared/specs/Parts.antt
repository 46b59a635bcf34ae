-- The parts of a world that seats hold: each is where one actor is. And what a step on a word does to a part.
use Rattle.std.specs.Prelude.{ℕ, Bool, true, false, ◌==◌, List, [], ◌∷◌, ◌++◌, map, Option, None, Some, if◌then◌else◌, option_to_list}
use Rattle.sb_actor.specs.ThreadTable.{thread_plan, thread_after}
use Rattle.sb_actor.specs.WorkerTable.{worker_plan, worker_after, taken_in}
use Rattle.sb_actor.specs.declared.acts.Act.{Act}
use Rattle.sb_actor.specs.declared.acts.Act.TheVariants as act
use Rattle.sb_actor.specs.Observations.{Observation}
use Rattle.sb_actor.specs.Observations as seen
use Rattle.sb_actor.specs.WorkerStages.{WorkerAt}
use Rattle.sb_book.specs.Histories.{History}
use Rattle.sb_statements.specs.declared.schedules.Actor.{Actor}
use Rattle.sb_statements.specs.declared.schedules.Actor.TheVariants.{Worker, Thread}
use Rattle.sb_statements.specs.declared.scripts.Script.{Script}
use Rattle.sb_core.specs.Shared.{Effect, on_answer}
use Rattle.sb_core.specs.Worlds.{WorldAt, no_worker, worker_at, run_at}
use Rattle.sb_shared.specs.declared.views.Event.{Event}
use Rattle.sb_shared.specs.declared.views.Part.{Part}
use Rattle.sb_shared.specs.declared.views.Part.TheVariants as part
use Rattle.sb_shared.specs.declared.views.View.{View}

-- the actor of a part
abbrev pub actor_in : Part → Actor
actor_in (part.Worker target state book) = Worker target
actor_in (part.Thread target thread state results) = Thread target thread

-- the book, if the worker of this target has the turn
abbrev pub held_by : Option ℕ → History → ℕ → Option History
held_by None book target = None
held_by (Some holder) book target = if holder == target then Some book else None

-- where an actor is in a world
abbrev pub part_of : WorldAt → Actor → Part
part_of w (Worker target) = part.Worker target (worker_at w target) (held_by w.shared.turn w.shared.book target)
part_of w (Thread target thread) = part.Thread target thread (run_at w target thread).thread (run_at w target thread).results

-- its next step
abbrev pub plan_in : Script → Part → Act
plan_in script (part.Worker target state book) = worker_plan state
plan_in script (part.Thread target thread state results) = thread_plan script state

-- what the actor sees of a step that found n in its word
abbrev pub seen_of : Act → ℕ → Observation
seen_of (act.Load t word) n = seen.Value n
seen_of (act.Exchange t word from to) n = seen.Value n
seen_of _ n = seen.Done

-- the part after its next step, if that is on a word and finds n there
abbrev pub part_after : Script → Part → ℕ → Part
part_after script (part.Worker target state book) n = part.Worker target (worker_after state (seen_of (worker_plan state) n)) book
part_after script (part.Thread target thread state results) n =
    part.Thread target thread (thread_after script state (seen_of (thread_plan script state) n)).thread
    (results ++ option_to_list (thread_after script state (seen_of (thread_plan script state) n)).ended)

-- the one part of a seat
abbrev pub first_part : List Part → Part
first_part [] = part.Worker 0 no_worker None
first_part (p ∷ more) = p

-- a view after a step that found n, with these parts, once this has happened
abbrev pub moved_view : View → List Part → ℕ → List Event → View
moved_view v parts n now = record v { parts = parts; found = n; history = now; taken = [] }

-- and after a step on a word
abbrev pub word_view : View → ℕ → List Event → View
word_view v n now = moved_view v (map (λ p. part_after v.key.script.value p n) v.parts) n now

-- the part of a worker after a step that showed it this, with the book that it has then
abbrev pub shown_part : Observation → Option History → Part → Part
shown_part seen book (part.Worker target state held) = part.Worker target (worker_after state seen) book
shown_part seen book (part.Thread target thread state results) = part.Thread target thread state results

-- what the book answers a worker
abbrev pub answer_to : History → ℕ → WorkerAt → Effect
answer_to book target state = on_answer (record { words = []; turn = None; book = book }) target state (taken_in state.stage)

-- the part of a worker after the book that it has answered it
abbrev pub answered_part : Part → Part
answered_part (part.Worker target state (Some book)) =
    part.Worker target (worker_after state (answer_to book target state).seen) (Some (answer_to book target state).shared.book)
answered_part (part.Worker target state None) = part.Worker target state None
answered_part (part.Thread target thread state results) = part.Thread target thread state results

abbrev pub taken_view : View → History → List Event → View
taken_view v book now = moved_view v (map (shown_part (seen.Turn true) (Some book)) v.parts) 0 now

abbrev pub missed_view : View → ℕ → List Event → View
missed_view v n now = moved_view v (map (shown_part (seen.Turn false) None) v.parts) n now

abbrev pub answered_view : View → ℕ → List Event → View
answered_view v n now = moved_view v (map answered_part v.parts) n now

abbrev pub given_view : View → List Event → View
given_view v now = moved_view v (map (shown_part seen.Done None) v.parts) 0 now

-- after a step on the stop word
abbrev pub told_view : View → List Event → View
told_view v now = record v { history = now }

-- the step is on a word
abbrev pub is_on_word : Act → Bool
is_on_word (act.Load t word) = true
is_on_word (act.Store t word value) = true
is_on_word (act.Exchange t word from to) = true
is_on_word _ = false
