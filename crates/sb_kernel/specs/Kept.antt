-- What a kernel keeps of its namespace besides what each service keeps of its own.
use Rattle.std.specs.Prelude.{ℕ, ◌+◌, ◌≤◌, length}
use Rattle.sb_services.specs.Files as files
use Rattle.sb_services.specs.Pipes as pipes
use Rattle.sb_handles.specs.Tables.{IsTable}
use Rattle.sb_services.specs.Registry as registry
use Rattle.sb_services.specs.Events as events
use Rattle.sb_services.specs.PipeKeeping.{AreNames}
use Rattle.sb_kernel.specs.Held.{AreHeld}
use Rattle.sb_kernel.specs.Namespaces.{Space}
use Rattle.sb_statements.specs.Limits.{most_start_lines}

-- each service made at most this many objects
pub record MadeAtMost (n : ℕ) (ns : Space) : Type 0 where
  pub files : length ns.files.objects ≤ n
  pub pipes : ns.pipes.made ≤ n
  pub keys : ns.keys.made ≤ n
  pub events : ns.events.made ≤ n

-- files and pipes agree with the handles on them, all that was made was there at the start or came with a handle, and each handle
-- has its row
pub record IsKept (ns : Space) : Type 0 where
  pub files_agree : files.Agrees ns.files ns.handles
  pub pipes_agree : pipes.Agrees ns.pipes ns.handles
  pub made : MadeAtMost (ns.handles.granted + most_start_lines) ns
  pub held : AreHeld ns

-- with what each part keeps: names are names, and numbers distinct within each service
pub record IsSound (ns : Space) : Type 0 where
  pub kept : IsKept ns
  pub files_are : files.AreFiles ns.files
  pub pipes_are : pipes.ArePipes ns.pipes
  pub pipes_named : AreNames ns.pipes.rows
  pub keys_are : registry.AreKeys ns.keys
  pub events_are : events.AreEvents ns.events
  pub handles_are : IsTable ns.handles
