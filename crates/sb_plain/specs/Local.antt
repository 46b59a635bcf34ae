-- What `local POLICY SCRIPT [SCHEDULE]` means.
use Rattle.std.specs.Prelude.{◌≡◌, ℕ, List, ◌∷◌, ◌++◌, Option, None, Some, IfSome, Result, Ok}
use Rattle.sb_book.specs.Histories.{setting_of}
use Rattle.sb_core.specs.declared.runs.Ran.{Ran}
use Rattle.sb_local.specs.Lines.{denial_lines}
use Rattle.sb_local.specs.Serial.{HasOneThread, serial}
use Rattle.sb_local.specs.Thinning.{Thinned, thin}
use Rattle.sb_rule.specs.declared.policies.Policy.{Policy}
use Rattle.sb_statements.specs.declared.schedules.Schedule.{Schedule}
use Rattle.sb_statements.specs.declared.scripts.Script.{Script}
use Rattle.sb_statements.specs.declared.statements.Statement.{Statement}
use Rattle.sb_transcript.specs.Transcripts.{transcript}
use Rattle.sb_plain.specs.Contents.{Content, Contents, ShownRefusal, most_bytes, policies_in, schedule_if, script_in}
use Rattle.sb_plain.specs.Ends.{End}
use Rattle.sb_plain.specs.Readings.{ReportedEnd}
use Rattle.sb_plain.specs.Replay.{if_finished, run_end_with, run_status, whole_run}
use Rattle.sb_plain.specs.ScriptEnds.{ends, script_end}

-- a script without the calls that its targets deny themselves, each by the policy that it names; and these calls
unfoldable pub thinned : List Policy → Script → Thinned
thinned policies script = thin (setting_of policies script).policies script

-- the end of a run of the script that is sent, as it is reported: these lines come before its transcript
abbrev pub reported_after : List ℕ → Script → Ran → ReportedEnd
reported_after lines script r = record {
  text = if_finished (lines ++ transcript script r.report) r.unfinished;
  status = run_status r.unfinished;
  report = Some r.report;
  notes = None;
}

-- the end of the run, by a schedule, of what the targets of a script send: the lines of the calls that they deny themselves come before the transcript
abbrev pub sent_end_of : List Policy → Script → Thinned → Ran → End
sent_end_of policies written t r = run_end_with (denial_lines written t.denied ++ transcript t.script r.report) policies t.script r

abbrev pub sent_end : List Policy → Script → Thinned → Schedule → End
sent_end policies written t schedule = sent_end_of policies written t (whole_run policies t.script schedule)

abbrev pub local_run_end : List Policy → Script → Schedule → End
local_run_end policies script schedule = sent_end policies script (thinned policies script) schedule

-- the schedule is one of the actors of the script, which are those of what its targets send
abbrev pub local_end : Contents → Result End ShownRefusal
local_end contents = script_end most_bytes schedule_if (ends local_run_end) contents

-- If a script has one thread, which has only calls, the report of `local` has the namespace that the calls of the script as it was written lead to, performed in
-- order, if the run leaves nothing unfinished
abbrev pub LocalRunsAreSerial : Type 0
LocalRunsAreSerial = (policy file : Content) (files : Contents) (policies : List Policy) (script : Script) (t : ℕ) (statements : List Statement) (end : End)
    → policies_in policy ≡ Ok policies → script_in policies file ≡ Ok script → HasOneThread script t statements
    → local_end (policy ∷ file ∷ files) ≡ Ok end
    → IfSome end.run (λ run. run.ran.unfinished ≡ None → run.ran.report.kernel ≡ serial (setting_of policies script).policies script)
