-- Seats, as contracts see them.
use Rattle.std.specs.Prelude.{◌≡◌, ℕ, ◌++◌, Bool, false, is_none, List, [], ◌∷◌, Option, None, Some, is_some, option_to_list}
use Rattle.atomic_table.specs.Seated.{TableId}
use Rattle.sb_actor.specs.ThreadTable.{thread_plan, thread_after}
use Rattle.sb_actor.specs.WorkerTable.{taken_in, worker_plan, worker_after}
use Rattle.sb_actor.specs.WorkerStages.{WorkerAt}
use Rattle.sb_actor.specs.Observations.{Observation}
use Rattle.sb_block.specs.Copies.{Copied, mark_of}
use Rattle.sb_book.specs.Histories.{History}
use Rattle.sb_core.specs.Shared.{on_word}
use Rattle.sb_core.specs.Threads.{RunAt, no_run}
use Rattle.sb_core.specs.Worlds.{no_worker, run_at, worker_at}
use Rattle.sb_statements.specs.declared.scripts.Script.{Script}
use Rattle.sb_shared.specs.Events.{stop_in, world_in}
use Rattle.sb_shared.specs.Origins.{start_of}
use Rattle.sb_shared.specs.Parts.{seen_of, answer_to}
use Rattle.sb_shared.specs.Rule.{Slot}
use Rattle.sb_shared.specs.Standing.{AllStand}
use Rattle.sb_shared.specs.Steps.{IsSince, IsStep}
use Rattle.sb_shared.specs.Stops.{stop_number}
use Rattle.sb_shared.specs.Waiting.{waits_after}
use Rattle.sb_shared.specs.declared.stops.Stop.{Stop}
use Rattle.sb_shared.specs.declared.views.Event.{Event}
use Rattle.sb_shared.specs.declared.views.Event.TheVariants as event
use Rattle.sb_shared.specs.declared.views.Origin.{Origin}
use Rattle.sb_shared.specs.declared.views.Part.{Part}
use Rattle.sb_shared.specs.declared.views.Part.TheVariants as part
use Rattle.sb_shared.specs.declared.views.TakenSeat.{TakenSeat}
use Rattle.sb_shared.specs.declared.views.View.{View}

-- a shared world is known by its table and by what it was opened with
pub record SharedValue : Type 0 where
  pub table : TableId
  pub key : Origin

-- the one thread of a seat, and where it is
pub record ThreadIn : Type 0 where
  pub target : ℕ
  pub thread : ℕ
  pub run : RunAt

abbrev pub thread_in : List Part → ThreadIn
thread_in [] = record { target = 0; thread = 0; run = no_run }
thread_in (part.Worker target state book ∷ more) = record { target = 0; thread = 0; run = no_run }
thread_in (part.Thread target thread state results ∷ more) = record { target = target; thread = thread; run = record { thread = state; results = results } }

abbrev pub thread_part : ThreadIn → Part
thread_part x = part.Thread x.target x.thread x.run.thread x.run.results

-- the view is of one thread alone
pub record IsThread (v : View) : Type 0 where
  pub one : v.parts ≡ thread_part (thread_in v.parts) ∷ []
  pub stands : AllStand v.key v.parts

-- the one worker of a seat, and where it is
pub record WorkerIn : Type 0 where
  pub target : ℕ
  pub state : WorkerAt
  pub book : Option History

abbrev pub worker_in : List Part → WorkerIn
worker_in [] = record { target = 0; state = no_worker; book = None }
worker_in (part.Worker target state book ∷ more) = record { target = target; state = state; book = book }
worker_in (part.Thread target thread state results ∷ more) = record { target = 0; state = no_worker; book = None }

abbrev pub worker_part : WorkerIn → Part
worker_part x = part.Worker x.target x.state x.book

-- the view is of one worker alone
pub record IsWorker (v : View) : Type 0 where
  pub one : v.parts ≡ worker_part (worker_in v.parts) ∷ []
  pub stands : AllStand v.key v.parts

-- the place of the book is with a seat exactly while its worker has the turn, and lies empty there
abbrev pub Lies : Option History → List (ℕ × Slot) → Type 0
Lies None slots = slots ≡ []
Lies (Some book) slots = slots ≡ (0, None) ∷ []

-- a seat of a thread: its table and the run's policies and script, where the thread is, what its last step found, whether that was nothing to go on
-- with, and all that had happened when the seat made its last step, with that step
pub record ThreadSeatValue : Type 0 where
  pub table : TableId
  pub key : Origin
  pub target : ℕ
  pub thread : ℕ
  pub run : RunAt
  pub found : ℕ
  pub waiting : Bool
  pub history : List Event

abbrev pub thread_seat : TableId → View → Bool → ThreadSeatValue
thread_seat table v waiting = record {
  table = table;
  key = v.key;
  target = (thread_in v.parts).target;
  thread = (thread_in v.parts).thread;
  run = (thread_in v.parts).run;
  found = v.found;
  waiting = waiting;
  history = v.history;
}

-- a seat of a worker, with the book while it has the turn, and whether the worker's copy is decided
pub record WorkerSeatValue : Type 0 where
  pub table : TableId
  pub key : Origin
  pub target : ℕ
  pub state : WorkerAt
  pub book : Option History
  pub decided : Bool
  pub found : ℕ
  pub history : List Event

abbrev pub worker_seat : TableId → View → Bool → WorkerSeatValue
worker_seat table v decided = record {
  table = table;
  key = v.key;
  target = (worker_in v.parts).target;
  state = (worker_in v.parts).state;
  book = (worker_in v.parts).book;
  decided = decided;
  found = v.found;
  history = v.history;
}

-- a thread goes on by a step on a word that found n
abbrev pub run_after : Script → RunAt → ℕ → RunAt
run_after script x n = record {
  thread = (thread_after script x.thread (seen_of (thread_plan script x.thread) n)).thread;
  results = x.results ++ option_to_list (thread_after script x.thread (seen_of (thread_plan script x.thread) n)).ended;
}

abbrev pub thread_stepped : ThreadSeatValue → ℕ → List Event → ThreadSeatValue
thread_stepped s n now =
    record s { run = run_after s.key.script.value s.run n; found = n; waiting = waits_after s.key.script.value s.run.thread n; history = now }

-- the mark of a worker's copy, 0 if it has none
abbrev pub mark_held : Option Copied → ℕ
mark_held None = 0
mark_held (Some taken) = mark_of taken

-- a worker goes on by a step on a word that found n
abbrev pub worker_stepped : WorkerSeatValue → ℕ → List Event → WorkerSeatValue
worker_stepped s n now = record s { state = worker_after s.state (seen_of (worker_plan s.state) n); found = n; history = now }

-- a worker goes on by a step that showed it this, with the book that it has then
abbrev pub worker_shown : WorkerSeatValue → Observation → Option History → ℕ → List Event → WorkerSeatValue
worker_shown s seen book n now = record s { state = worker_after s.state seen; book = book; found = n; history = now }

-- a worker goes on by what the book that it has answers
abbrev pub worker_answered : WorkerSeatValue → History → ℕ → List Event → WorkerSeatValue
worker_answered s book n now = worker_shown s (answer_to book s.target s.state).seen (Some (answer_to book s.target s.state).shared.book) n now

-- the worker's copy, if there is one, is decided
abbrev pub worker_decided : WorkerSeatValue → WorkerSeatValue
worker_decided s = record s { decided = is_some (taken_in s.state.stage) }

-- a decision that was made is dropped
abbrev pub worker_undecided : WorkerSeatValue → WorkerSeatValue
worker_undecided s = record s { decided = false }

-- the seat made a step on the stop word, with which this had happened
abbrev pub thread_told : ThreadSeatValue → List Event → ThreadSeatValue
thread_told s now = record s { history = now }

abbrev pub worker_told : WorkerSeatValue → List Event → WorkerSeatValue
worker_told s now = record s { history = now }

-- the seat that takes in all others, with the parts that it has, what it has seen, and what those knew that it took in
pub record KeeperValue : Type 0 where
  pub table : TableId
  pub key : Origin
  pub parts : List Part
  pub history : List Event
  pub taken : List TakenSeat

abbrev pub keeper_seat : TableId → View → KeeperValue
keeper_seat table v = record { table = table; key = v.key; parts = v.parts; history = v.history; taken = v.taken }

abbrev pub keeper_told : KeeperValue → List Event → KeeperValue
keeper_told s now = record s { history = now }

-- what no step of a thread's seat changes
pub record IsSameThread (old new : ThreadSeatValue) : Type 0 where
  pub table : new.table ≡ old.table
  pub key : new.key ≡ old.key
  pub target : new.target ≡ old.target
  pub thread : new.thread ≡ old.thread

-- and of a worker's
pub record IsSameWorker (old new : WorkerSeatValue) : Type 0 where
  pub table : new.table ≡ old.table
  pub key : new.key ≡ old.key
  pub target : new.target ≡ old.target

-- a seat of a thread before its first step
abbrev pub fresh_thread : TableId → Origin → ℕ × ℕ → ThreadSeatValue
fresh_thread table key place =
    record { table = table; key = key; target = place.0; thread = place.1; run = run_at (start_of key) place.0 place.1; found = 0; waiting = false; history = [] }

-- a seat of a worker before its first step
abbrev pub fresh_worker : TableId → Origin → ℕ → WorkerSeatValue
fresh_worker table key t =
    record { table = table; key = key; target = t; state = worker_at (start_of key) t; book = None; decided = false; found = 0; history = [] }

-- the seat that takes in all others, before the first step
abbrev pub fresh_keeper : TableId → Origin → KeeperValue
fresh_keeper table key = record { table = table; key = key; parts = []; history = []; taken = [] }

-- where the actor of a seat is
abbrev pub worker_place : WorkerSeatValue → Part
worker_place s = part.Worker s.target s.state s.book

abbrev pub thread_place : ThreadSeatValue → Part
thread_place s = part.Thread s.target s.thread s.run.thread s.run.results

-- one step of the core by the worker of a seat
pub record IsWorkerStep (old new : WorkerSeatValue) : Type 0 where
  pub before : List Event
  pub core : IsStep old.key (worker_place old) (worker_place new) old.history before new.history

-- on a word, in which it found what is there in the core
pub record IsWordStep (old new : WorkerSeatValue) : Type 0 where
  pub core : IsWorkerStep old new
  pub found : seen_of (worker_plan old.state) new.found ≡ (on_word (world_in old.key core.before).shared (worker_plan old.state)).seen

-- a try to take the turn, which is got exactly if nobody has it in the core
pub record IsTry (old new : WorkerSeatValue) (got : Bool) : Type 0 where
  pub core : IsWorkerStep old new
  pub is : got ≡ is_none (world_in old.key core.before).shared.turn

-- one step of the core by the thread of a seat, which found in its word what is there in the core
pub record IsThreadStep (old new : ThreadSeatValue) : Type 0 where
  pub before : List Event
  pub core : IsStep old.key (thread_place old) (thread_place new) old.history before new.history
  pub found : seen_of (thread_plan old.key.script.value old.run.thread) new.found ≡ (on_word (world_in old.key before).shared (thread_plan old.key.script.value old.run.thread)).seen

-- a seat with these parts looked at the stop word: it saw the greatest stop that was set before, or none if none was
pub record IsLook (parts : List Part) (seen : List Event) (stop : Option Stop) (now : List Event) : Type 0 where
  pub before : List Event
  pub since : IsSince parts seen before
  pub is : stop_number stop ≡ stop_in before
  pub made : now ≡ before ++ event.Look ∷ []

-- it set a stop
pub record IsStop (parts : List Part) (seen : List Event) (stop : Stop) (now : List Event) : Type 0 where
  pub before : List Event
  pub since : IsSince parts seen before
  pub made : now ≡ before ++ event.Stop stop ∷ []
