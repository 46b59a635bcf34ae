-- A run before its first step.
use Rattle.std.specs.Prelude.{◌≡◌, ◌<◌, List, [], ◌∷◌, ◌++◌, length, map}
use Rattle.sb_pool.specs.Pools.{AreSeats, PoolValue}
use Rattle.sb_rule.specs.declared.policies.Policy.{Policy}
use Rattle.sb_shared.specs.Opening.{target_places, thread_places}
use Rattle.sb_shared.specs.Seats.{KeeperValue, SharedValue, ThreadSeatValue, WorkerSeatValue, fresh_keeper, fresh_thread, fresh_worker}
use Rattle.sb_statements.specs.declared.scripts.Script.{Script}
use Rattle.sb_run.specs.Servers.{ServerAt}
use Rattle.sb_run.specs.Works.{home_of}

-- the shared world, the seats of all threads, the pool, and the seats of those who serve, with the one that takes them in
pub record OpenedAt : Type 0 where
  pub world : SharedValue
  pub keeper : KeeperValue
  pub threads : List ThreadSeatValue
  pub pool : PoolValue
  pub servers : List ServerAt
  pub last : ServerAt

-- where the seats of all workers are at home
abbrev pub worker_homes : SharedValue → List WorkerSeatValue
worker_homes world = map home_of (map (fresh_worker world.table world.key) (target_places world.key.script.value.targets))

-- The world is that of the script under these policies, with a fresh seat for each thread, by target and then by number. The pool has the fresh seats of
-- all workers, and some serve
pub record IsOpened (policies : List Policy) (script : Script) (x : OpenedAt) : Type 0 where
  pub policies_are : x.world.key.policies.value.list ≡ policies
  pub script_is : x.world.key.script.value ≡ script
  pub its_keeper : x.keeper ≡ fresh_keeper x.world.table x.world.key
  pub its_threads : x.threads ≡ map (fresh_thread x.world.table x.world.key) (thread_places x.world.key.script.value.targets)
  pub some : 0 < length x.servers
  pub seats : AreSeats x.pool (worker_homes x.world) (x.servers ++ x.last ∷ [])
