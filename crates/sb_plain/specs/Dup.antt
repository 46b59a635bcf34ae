-- What `dup POLICY SCRIPT MOVES` means.
use Rattle.std.specs.Prelude.{ℕ, List, ◌++◌, length, Option, None, Some, Result}
use Rattle.sb_book.specs.Histories.{setting_of}
use Rattle.sb_book.specs.declared.reports.Report.{Report}
use Rattle.sb_core.specs.declared.runs.Ran.{Ran}
use Rattle.sb_dup.specs.Chains.{answered}
use Rattle.sb_dup.specs.MoveLines.{lines_of_moves}
use Rattle.sb_dup.specs.MoveTexts.{reading}
use Rattle.sb_dup.specs.declared.moves.Move.{Move}
use Rattle.sb_dup.specs.declared.moves.MoveAnswer.{MoveAnswer}
use Rattle.sb_message.specs.declared.text_faults.TextFault.TheVariants.{Moves}
use Rattle.sb_rule.specs.declared.policies.Policy.{Policy}
use Rattle.sb_statements.specs.declared.scripts.Script.{Script}
use Rattle.sb_text.specs.Steps.{◌>>=◌}
use Rattle.sb_transcript.specs.Transcripts.{transcript}
use Rattle.sb_plain.specs.Contents.{Content, Contents, FileContent, ShownRefusal, file_in, most_bytes, no_schedule, read_as}
use Rattle.sb_plain.specs.Ends.{End}
use Rattle.sb_plain.specs.Readings.{ReportedEnd}
use Rattle.sb_plain.specs.Replay.{if_finished, run_end_with, run_status, whole_run}
use Rattle.sb_plain.specs.ScriptEnds.{ends, needed, script_end}

-- the moves of a text, between targets of this script
abbrev pub moves_of : Script → FileContent → Result (List Move) ShownRefusal
moves_of script text = read_as Moves text (reading (length script.targets) text.bytes)

-- the moves of the third file, between targets of this script
abbrev pub moves_in : Script → Content → Result (List Move) ShownRefusal
moves_in script content = file_in 3 content >>= moves_of script

-- how moves are answered after a run, one after another: from the namespace and the handles that it reports, by the policy of each target
abbrev pub answers_after : List Policy → List Move → Report → List (Move × MoveAnswer)
answers_after targets moves report = answered report.kernel targets moves report.kernel.handles

-- the transcript of a run, and then a line for each move, and their totals
unfoldable pub moved_text : List Policy → Script → List Move → Report → List ℕ
moved_text targets script moves report = transcript script report ++ lines_of_moves script (answers_after targets moves report)

-- the end of a run that moves follow, which are judged by the policies that the targets of the script name: if a thread is unfinished no move is made
abbrev pub moved_by : List Policy → Script → List Move → Ran → End
moved_by policies script moves r = run_end_with (moved_text (setting_of policies script).policies script moves r.report) policies script r

-- the same with its report, by the policies that judge the moves
abbrev pub reported_moves : List Policy → Script → List Move → Ran → ReportedEnd
reported_moves targets script moves r = record {
  text = if_finished (moved_text targets script moves r.report) r.unfinished;
  status = run_status r.unfinished;
  report = Some r.report;
  notes = None;
}

-- the script is run without a schedule, and then the moves are made
abbrev pub moves_end : List Policy → Script → List Move → End
moves_end policies script moves = moved_by policies script moves (whole_run policies script no_schedule)

abbrev pub dup_end : Contents → Result End ShownRefusal
dup_end contents = script_end most_bytes (λ script. needed (moves_of script)) (ends moves_end) contents
