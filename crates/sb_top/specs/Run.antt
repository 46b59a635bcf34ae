-- What `run POLICY SCRIPT [--workers N]` means. How many workers there are is no part of it.
use Rattle.std.specs.Prelude.{◌≡◌, List, Result, Ok, ⊤}
use Rattle.sb_rule.specs.declared.policies.Policy.{Policy}
use Rattle.sb_statements.specs.declared.scripts.Script.{Script}
use Rattle.sb_statements.specs.declared.schedules.Schedule.{Schedule}
use Rattle.sb_plain.specs.Contents.{Contents, ShownRefusal, most_bytes}
use Rattle.sb_plain.specs.Ends.{End, IsOrderOf}
use Rattle.sb_plain.specs.Readings.{ReportedEnd, reported}
use Rattle.sb_plain.specs.Replay.{run_end}
use Rattle.sb_plain.specs.ScriptEnds.{nothing, script_end}

-- the script is run by this order of steps
abbrev pub ordered_end : Schedule → List Policy → Script → ⊤ → Result End ShownRefusal
ordered_end order policies script none = Ok (run_end policies script order)

abbrev pub threads_end : Schedule → Contents → Result End ShownRefusal
threads_end order contents = script_end most_bytes (λ script. nothing) (ordered_end order) contents

-- this is the end of a run of the script by some order of steps
pub record IsThreadsEnd (policies : List Policy) (script : Script) (end : ReportedEnd) : Type 0 where
  pub order : Schedule
  pub is_order : IsOrderOf order (run_end policies script order)
  pub is : end ≡ reported (run_end policies script order)
