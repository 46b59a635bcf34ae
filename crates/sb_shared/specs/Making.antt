-- The seats of all actors, as they are made of the keeper's seat.
use Rattle.std.specs.Prelude.{◌≡◌, ◌<◌, ℕ, List, length, map}
use Rattle.atomic_table.specs.Seated.{TableId}
use Rattle.sb_core.specs.Kept.{IsRunning, IsWorld}
use Rattle.sb_statements.specs.declared.schedules.Actor.{Actor}
use Rattle.sb_statements.specs.declared.scripts.Script.{Script}
use Rattle.sb_core.specs.Worlds.{first_run, run_at, threads_at}
use Rattle.sb_shared.specs.Origins.{start_of}
use Rattle.sb_shared.specs.Parts.{part_of}
use Rattle.sb_shared.specs.Seats.{KeeperValue, fresh_keeper}
use Rattle.sb_shared.specs.declared.views.Origin.{Origin}

-- the keeper's seat with these actors, before the first step
abbrev pub keeper_of : TableId → Origin → List Actor → KeeperValue
keeper_of table key actors = record (fresh_keeper table key) { parts = map (part_of (start_of key)) actors }

-- the run was opened with this script: its first world keeps what every world keeps, and runs the script, and each thread is there
-- before its first statement
pub record IsOpenedWith (key : Origin) (script : Script) : Type 0 where
  pub script_is : key.script.value ≡ script
  pub world : IsWorld (start_of key)
  pub running : IsRunning script (start_of key)
  pub first : (t k : ℕ) → k < length (threads_at (start_of key) t) → run_at (start_of key) t k ≡ first_run script t k
