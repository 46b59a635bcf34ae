-- Seats are made of one and taken in by one; and what is known once all were taken in.
use Rattle.std.specs.Prelude.{◌≡◌, ◌<◌, ℕ, true, None, Some, List, [], ◌∷◌, ◌++◌, map, slice_index, All}
use mathlib.Core.Option as raw
use lib.ListN.{get_elem?}
use Rattle.sb_actor.specs.Moves.{at}
use Rattle.sb_actor.specs.Places.{is_finished}
use Rattle.sb_core.specs.Actors.{are_there}
use Rattle.sb_core.specs.Kept.{IsWorld, IsRunning}
use Rattle.sb_core.specs.Reports.{results_of}
use Rattle.sb_core.specs.Threads.{first_unfinished}
use Rattle.sb_core.specs.Words.{words_of}
use Rattle.sb_core.specs.Worlds.{WorldAt}
use Rattle.sb_shared.specs.Events.{actors_of, longer, world_in}
use Rattle.sb_shared.specs.Opening.{target_places, thread_places}
use Rattle.sb_shared.specs.Origins.{setting_in}
use Rattle.sb_shared.specs.Parts.{actor_in, part_of}
use Rattle.sb_shared.specs.Rule.{Slot, spot}
use Rattle.sb_shared.specs.Seats.{KeeperValue, SharedValue, ThreadSeatValue, WorkerSeatValue}
use Rattle.sb_shared.specs.Steps.{IsSince}
use Rattle.sb_shared.specs.declared.closings.ClosedRun.{ClosedRun}
use Rattle.sb_shared.specs.declared.views.Event.{Event}
use Rattle.sb_shared.specs.declared.views.Origin.{Origin}
use Rattle.sb_shared.specs.declared.views.Part.{Part}
use Rattle.sb_shared.specs.declared.views.Part.TheVariants as part
use Rattle.sb_shared.specs.declared.views.TakenSeat.{TakenSeat}
use Rattle.sb_shared.specs.declared.views.View.{View}

-- the first of these parts, and the others
abbrev pub front : List Part → List Part
front [] = []
front (p ∷ ps) = p ∷ []

abbrev pub later_parts : List Part → List Part
later_parts [] = []
later_parts (p ∷ ps) = ps

-- the seat that is made has the first part
abbrev pub left_view : View → View
left_view v = record v { parts = later_parts v.parts; taken = [] }

abbrev pub right_view : View → View
right_view v = record v { parts = front v.parts; found = 0; taken = [] }

-- what a seat knows that is taken in
abbrev pub taken_of : View → TakenSeat
taken_of u = record { parts = u.parts; history = u.history }

-- a seat takes in the parts of another, and what it has seen
abbrev pub joined_view : View → View → View
joined_view v u = record v { parts = v.parts ++ u.parts; history = longer v.history u.history; taken = v.taken ++ taken_of u ∷ [] }

-- a seat that was taken in has none
abbrev pub no_key : Origin
no_key = record {
  policies = record { marker = record {}; value = record { list = [] } };
  script = record { marker = record {}; value = record { patience = 0; start = []; targets = [] } };
}

abbrev pub spent_view : View
spent_view = record { key = no_key; parts = []; found = 0; history = []; taken = [] }

-- The world at the end: what happened led to a world with these words, this book if nobody has the turn, and these parts. Each of the seats that
-- were taken in saw a beginning of it, with all steps of its actors
pub record Ends (key : Origin) (parts : List Part) (taken : List TakenSeat) (rows : List ℕ) (slot : Slot) : Type 0 where
  pub events : List Event
  pub world : WorldAt
  pub reached : world ≡ world_in key events
  pub there : are_there key.script.value.targets (actors_of events) ≡ true
  pub kept : IsWorld world
  pub running : IsRunning key.script.value world
  pub setting : world.shared.book.setting ≡ setting_in key
  pub words : (t c j : ℕ) → t < 8 → c < 8 → j < 65 → slice_index rows (spot t c j) ≡ slice_index (words_of world.shared.words t) (at c j)
  pub book : world.shared.turn ≡ None → slot ≡ Some world.shared.book
  pub stand : (n : ℕ) (p : Part) → get_elem? parts n ≡ raw.some p → p ≡ part_of world (actor_in p)
  pub since : (n : ℕ) (t : TakenSeat) → get_elem? taken n ≡ raw.some t → IsSince t.parts t.history events

-- the seat that takes in all others, and has no part yet
pub record IsKeeper (world : SharedValue) (keeper : KeeperValue) : Type 0 where
  pub table : keeper.table ≡ world.table
  pub key : keeper.key ≡ world.key
  pub empty : keeper.parts ≡ []

-- the seat of a worker of this world that does not have the turn
pub record IsWorkerSeat (world : SharedValue) (s : WorkerSeatValue) : Type 0 where
  pub table : s.table ≡ world.table
  pub key : s.key ≡ world.key
  pub without : s.book ≡ None

-- the same, with the turn or without
pub record IsWorkerOf (world : SharedValue) (s : WorkerSeatValue) : Type 0 where
  pub table : s.table ≡ world.table
  pub key : s.key ≡ world.key

-- the seat of a thread of this world
pub record IsThreadSeat (world : SharedValue) (s : ThreadSeatValue) : Type 0 where
  pub table : s.table ≡ world.table
  pub key : s.key ≡ world.key

-- the seats of all workers, by target; none has the turn
pub record AreWorkers (world : SharedValue) (seats : List WorkerSeatValue) : Type 0 where
  pub each : All (IsWorkerSeat world) seats
  pub places : map (λ s. s.target) seats ≡ target_places world.key.script.value.targets

-- the seats of all threads, by target and then by number
pub record AreThreads (world : SharedValue) (seats : List ThreadSeatValue) : Type 0 where
  pub each : All (IsThreadSeat world) seats
  pub places : map (λ s. (s.target, s.thread)) seats ≡ thread_places world.key.script.value.targets

-- where the actor of a seat is
abbrev pub part_of_worker : WorkerSeatValue → Part
part_of_worker s = part.Worker s.target s.state None

abbrev pub part_of_thread : ThreadSeatValue → Part
part_of_thread s = part.Thread s.target s.thread s.run.thread s.run.results

-- what their seats know
abbrev pub taken_worker : WorkerSeatValue → TakenSeat
taken_worker s = record { parts = part_of_worker s ∷ []; history = s.history }

abbrev pub taken_thread : ThreadSeatValue → TakenSeat
taken_thread s = record { parts = part_of_thread s ∷ []; history = s.history }

-- each of these threads has ended
abbrev pub AreFinished : Origin → List ThreadSeatValue → Type 0
AreFinished key seats = All (λ s. is_finished key.script.value s.run.thread ≡ true) seats

-- What happened, from the start on, led to a world in which nobody has the turn; words, workers, book and results are those of this world. Each seat
-- saw a beginning of what happened, with all steps of its actor. If the threads of these seats have ended, then all threads of this world have
pub record IsClosed (key : Origin) (workers : List WorkerSeatValue) (seats : List ThreadSeatValue) (run : ClosedRun) : Type 0 where
  pub events : List Event
  pub world : WorldAt
  pub there : are_there key.script.value.targets (actors_of events) ≡ true
  pub reached : world ≡ world_in key events
  pub by_workers : All (λ s. IsSince (part_of_worker s ∷ []) s.history events) workers
  pub by_threads : All (λ s. IsSince (part_of_thread s ∷ []) s.history events) seats
  pub turn : world.shared.turn ≡ None
  pub words : run.words ≡ world.shared.words
  pub states : run.workers.items ≡ world.workers
  pub book : run.book ≡ world.shared.book
  pub setting : run.book.setting ≡ setting_in key
  pub results : run.results ≡ results_of world.threads
  pub finished : AreFinished key seats → first_unfinished key.script.value world.threads ≡ None
