-- What `replay` and `run` write passes an audit, and is not too long for one.
use Rattle.std.specs.Prelude.{◌≡◌, ◌≤◌, ℕ, Bool, true, false, List, [], ◌∷◌, ◌++◌, length, Some, IsSomeAnd, Ok}
use Rattle.sb_audit.specs.Audited.{audited}
use Rattle.sb_audit.specs.declared.answers.AuditAnswer.TheVariants.{Yes}
use Rattle.sb_book.specs.Reports.{result_count}
use Rattle.sb_book.specs.declared.reports.Report.{Report}
use Rattle.sb_commands.specs.Commands.{Command, files_of}
use Rattle.sb_commands.specs.declared.works.PlainWork.TheVariants.{Replay}
use Rattle.sb_commands.specs.declared.works.ThreadedWork.TheVariants.{Run}
use Rattle.sb_commands.specs.declared.works.Work.{Work}
use Rattle.sb_commands.specs.declared.works.Work.TheVariants.{Plain, Threaded}
use Rattle.sb_outside.specs.Outside.{GrowsBy}
use Rattle.sb_statements.specs.declared.schedules.Schedule.{Schedule}
use Rattle.sb_transcript.specs.Lengths.{most_transcript_bytes}
use Rattle.sb_plain.specs.Audit.{answered_end, audit_end, yes_line}
use Rattle.sb_plain.specs.Effects.{Effect}
use Rattle.sb_plain.specs.Endings.{IsEnding}
use Rattle.sb_plain.specs.Contents.{Contents}
use Rattle.sb_plain.specs.Ends.{AreContents, End, IsOrderOf, ScriptRun, report_of}
use Rattle.sb_plain.specs.Replay.{replay_end}
use Rattle.sb_plain.specs.declared.outcomes.Outcome.{Outcome}
use Rattle.sb_message.specs.declared.statuses.Status.TheVariants.{Done}
use Rattle.sb_top.specs.Run.{threads_end}
use Rattle.sb_top.specs.Top.{meaning_of}

-- the policies and the script of these files, with a transcript as the third file
abbrev pub with_transcript : Contents → List ℕ → Contents
with_transcript (policy ∷ script ∷ files) text = policy ∷ script ∷ Some text ∷ []
with_transcript contents text = contents

-- `audit` over these files and this transcript is done, and says yes with the numbers of entries and results of a report
abbrev pub AuditSaysYes : Contents → List ℕ → Report → Type 0
AuditSaysYes contents text report =
    audit_end (with_transcript contents text) ≡ Ok (answered_end (yes_line (length report.entries) (result_count report.results)))

-- a text that is written of a run: it is not too long for an audit, an audit under the policies and the script of the run says yes, and so does the
-- command `audit` over the files of which they were read
pub record IsAuditedAs (contents : Contents) (text : List ℕ) (run : ScriptRun) : Type 0 where
  pub short : length text ≤ most_transcript_bytes
  pub answer : audited run.policies run.script text ≡ Yes (length run.ran.report.entries) (result_count run.ran.report.results)
  pub command : AuditSaysYes contents text run.ran.report

-- so it is of what `replay` writes if it is done and this is its report
abbrev pub ReplaysAreAudited : Report → Type 0
ReplaysAreAudited report = (contents : Contents) (end : End) (text : List ℕ) → replay_end contents ≡ Ok end → end.text ≡ Some text → report_of end ≡ Some report
    → IsSomeAnd end.run (IsAuditedAs contents text)

-- and of what `run` writes, whatever the order of the steps was
abbrev pub ThreadedRunsAreAudited : Report → Type 0
ThreadedRunsAreAudited report = (order : Schedule) (contents : Contents) (end : End) (text : List ℕ) → threads_end order contents ≡ Ok end → IsOrderOf order end
    → end.text ≡ Some text → report_of end ≡ Some report → IsSomeAnd end.run (IsAuditedAs contents text)

-- a command that writes the transcript of its run
abbrev pub writes_transcript : Work → Bool
writes_transcript (Plain Replay) = true
writes_transcript (Threaded Run) = true
writes_transcript work = false

-- What a call wrote over files of these names is a transcript that is not too long for an audit, and `audit` over the same policies and script says yes,
-- with the numbers of entries and results of the report
pub record IsAudited {G S : Type 0} (names : List (List ℕ)) (e : Effect G S) (o : Outcome) : Type 0 where
  pub contents : Contents
  pub held : AreContents e.held names contents
  pub text : List ℕ
  pub written : GrowsBy e.written (e.pending ++ text) e.written'
  pub short : length text ≤ most_transcript_bytes
  pub audited : IsSomeAnd o.report (AuditSaysYes contents text)

-- so it is if a call of such a command ended with this outcome, and that is Done
abbrev pub OutcomesAreAudited : Type 0 → Type 0 → Outcome → Type 0
OutcomesAreAudited G S o = (command : Command) (e : Effect G S) → writes_transcript command.work ≡ true → IsEnding (meaning_of command) (files_of command) e o
    → o.status ≡ Done → IsAudited (files_of command) e o
