-- The actors of a run on the seats of one shared world.
use Rattle.std.specs.Prelude.{◌≡◌, List, map, All}
use Rattle.sb_shared.specs.Closing.{AreThreads, IsWorkerOf}
use Rattle.sb_shared.specs.Opening.{target_places}
use Rattle.sb_shared.specs.Seats.{SharedValue, ThreadSeatValue, WorkerSeatValue}
use Rattle.sb_tables.specs.declared.players.Players.{Players}

-- the seats of all workers, by target, each with the turn or without
pub record AreHere (world : SharedValue) (seats : List WorkerSeatValue) : Type 0 where
  pub each : All (IsWorkerOf world) seats
  pub places : map (λ s. s.target) seats ≡ target_places world.key.script.value.targets

-- the seats of all actors
pub record ArePlayers (world : SharedValue) (players : Players) : Type 0 where
  pub workers : AreHere world players.workers.items
  pub threads : AreThreads world players.threads.items

-- seats of workers on the table of this world
abbrev pub AreOnTable : SharedValue → List WorkerSeatValue → Type 0
AreOnTable world seats = All (λ s. s.table ≡ world.table) seats

-- seats of threads there
abbrev pub AreThreadsOnTable : SharedValue → List ThreadSeatValue → Type 0
AreThreadsOnTable world seats = All (λ s. s.table ≡ world.table) seats
