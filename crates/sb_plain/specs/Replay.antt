-- What `replay POLICY SCRIPT [SCHEDULE]` means.
use Rattle.std.specs.Prelude.{ℕ, List, Option, None, Some, Result}
use Rattle.sb_core.specs.Runs.{ran}
use Rattle.sb_core.specs.declared.runs.Ran.{Ran}
use Rattle.sb_message.specs.declared.statuses.EndStatus.{EndStatus}
use Rattle.sb_message.specs.declared.statuses.EndStatus.TheVariants.{Done, Unfinished}
use Rattle.sb_rule.specs.declared.policies.Policy.{Policy}
use Rattle.sb_statements.specs.declared.schedules.Schedule.{Schedule}
use Rattle.sb_statements.specs.declared.scripts.Script.{Script}
use Rattle.sb_text.specs.Steps.{◌>>=◌}
use Rattle.sb_transcript.specs.Transcripts.{transcript}
use Rattle.sb_plain.specs.Contents.{Contents, ShownRefusal, most_bytes, schedule_if}
use Rattle.sb_plain.specs.Ends.{End}
use Rattle.sb_plain.specs.ScriptEnds.{ends, later_text, script_end}

-- the run of a script under policies by a schedule
unfoldable pub whole_run : List Policy → Script → Schedule → Ran
whole_run policies script schedule = ran policies script schedule

-- the status of a run: the first thread that it leaves unfinished, if there is one
abbrev pub run_status : Option (ℕ × ℕ) → EndStatus
run_status None = Done
run_status (Some thread) = Unfinished thread.0 thread.1

-- this text, if no thread is unfinished
abbrev pub if_finished : List ℕ → Option (ℕ × ℕ) → Option (List ℕ)
if_finished text None = Some text
if_finished text (Some thread) = None

-- the transcript of a run, if no thread is unfinished
abbrev pub run_text : Script → Ran → Option (ℕ × ℕ) → Option (List ℕ)
run_text script r unfinished = if_finished (transcript script r.report) unfinished

-- the end of a run that writes this text if no thread is unfinished
abbrev pub run_end_with : List ℕ → List Policy → Script → Ran → End
run_end_with text policies script r = record {
  text = if_finished text r.unfinished;
  status = run_status r.unfinished;
  run = Some (record { policies = policies; script = script; ran = r });
  notes = None;
}

-- the end of the run of a script by a schedule: it writes its transcript
abbrev pub ended_by : List Policy → Script → Ran → End
ended_by policies script r = run_end_with (transcript script r.report) policies script r

abbrev pub run_end : List Policy → Script → Schedule → End
run_end policies script schedule = ended_by policies script (whole_run policies script schedule)

-- the schedule of the last file, if there is one
abbrev pub schedule_of : Script → Contents → Result Schedule ShownRefusal
schedule_of script files = later_text most_bytes files >>= schedule_if script

abbrev pub replay_end : Contents → Result End ShownRefusal
replay_end contents = script_end most_bytes schedule_if (ends run_end) contents
