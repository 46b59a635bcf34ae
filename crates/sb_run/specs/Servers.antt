-- The seat of the pool with which a thread serves targets.
use Rattle.std.specs.Prelude.{◌≡◌, [], length}
use Rattle.sb_pool.specs.Counting.{IsSamePlace}
use Rattle.sb_pool.specs.Pools.{IsSeatOf, seen}
use Rattle.sb_pool.specs.declared.seats.PoolSeat.{PoolSeat}
use Rattle.sb_shared.specs.Seats.{WorkerSeatValue}
use Rattle.sb_run.specs.Contexts.{AreHomes, ContextAt}

abbrev pub ServerAt : Type 0
ServerAt = PoolSeat WorkerSeatValue WorkerSeatValue

-- the seat is one of the pool, no work is out with it, and it knows where each is at home
pub record IsServer (x : ContextAt) (s : ServerAt) : Type 0 where
  pub own : IsSeatOf x.pool s
  pub none : (seen s).out ≡ []
  pub homes : AreHomes x.world (seen s).homes

-- serving leaves the seat as it was
pub record IsSameServer (old new : ServerAt) : Type 0 where
  pub table : new.pass.table_id ≡ old.pass.table_id
  pub slots : new.pass.me.1 ≡ old.pass.me.1
  pub known : seen new ≡ seen old
  pub rooms : length new.rooms ≡ length old.rooms
  pub place : IsSamePlace old.place new.place
