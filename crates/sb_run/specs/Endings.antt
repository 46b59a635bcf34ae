-- The end of a run by threads.
use Rattle.std.specs.Prelude.{◌≡◌, ◌<◌, [], ◌∷◌, ◌++◌, length}
use Rattle.sb_pool.specs.Pools.{AreSeats}
use Rattle.sb_shared.specs.Closing.{AreFinished, AreThreads, IsKeeper}
use Rattle.sb_shared.specs.Origins.{setting_in}
use Rattle.sb_shared.specs.Runs.{IsRun}
use Rattle.sb_shared.specs.declared.closings.ClosedRun.{ClosedRun}
use Rattle.sb_shared.specs.declared.views.Origin.{Origin}
use Rattle.sb_run.specs.Openings.{OpenedAt, worker_homes}

-- Each thread of the script has ended, and all seats came back: those of the threads in order, and those of the pool, out of which no work is
pub record CanEnd (x : OpenedAt) : Type 0 where
  pub its_keeper : IsKeeper x.world x.keeper
  pub its_threads : AreThreads x.world x.threads
  pub finished : AreFinished x.world.key x.threads
  pub some : 0 < length x.servers
  pub seats : AreSeats x.pool (worker_homes x.world) (x.servers ++ x.last ∷ [])

-- what was closed is a run of the script by some order of steps, and its book has the setting of the script
pub record HasClosed (key : Origin) (run : ClosedRun) : Type 0 where
  pub runs : IsRun key run
  pub setting : run.book.setting ≡ setting_in key
