-- What all threads of a run share, and what ties a work to it.
use Rattle.std.specs.Prelude.{◌≡◌, ℕ, List, slice_get, Some}
use Rattle.sb_pool.specs.Pools.{PoolValue}
use Rattle.sb_rule.specs.declared.policies.Policy.{Policy}
use Rattle.sb_shared.specs.Closing.{IsWorkerOf}
use Rattle.sb_shared.specs.Origins.{setting_in}
use Rattle.sb_shared.specs.Seats.{SharedValue, WorkerSeatValue}
use Rattle.sb_statements.specs.declared.scripts.Script.{Script}

-- the script, the shared world, the pool that deals the seats of the workers, and the policies of the judge
pub record ContextAt : Type 0 where
  pub script : Script
  pub world : SharedValue
  pub pool : PoolValue
  pub policies : List Policy

-- the world was opened with this script, and the policies are those of its book
pub record IsContext (x : ContextAt) : Type 0 where
  pub its_script : x.world.key.script.value ≡ x.script
  pub judges : x.policies ≡ (setting_in x.world.key).policies

-- each work is the seat of a worker of this world
abbrev pub AreHomes : SharedValue → List WorkerSeatValue → Type 0
AreHomes world homes = (t : ℕ) (h : WorkerSeatValue) → slice_get homes t ≡ Some h → IsWorkerOf world h
