-- The work of a pool: the seat of a worker that is looking, and what stays of it while it is served.
use Rattle.std.specs.Prelude.{◌≡◌, ℕ, true, false, [], None}
use Rattle.sb_actor.specs.WorkerTable.{is_looking}
use Rattle.sb_core.specs.Worlds.{no_worker}
use Rattle.sb_shared.specs.Seats.{WorkerSeatValue}

-- the worker is looking and does not have the turn
pub record IsWork (x : WorkerSeatValue) : Type 0 where
  pub looking : is_looking x.state.stage ≡ true
  pub without : x.book ≡ None

-- its number is its target
abbrev pub number_of : WorkerSeatValue → ℕ
number_of x = x.target

-- what stays of a seat: the table, the key with which it was opened, and the target
abbrev pub home_of : WorkerSeatValue → WorkerSeatValue
home_of x = record x { state = no_worker; book = None; decided = false; found = 0; history = [] }
