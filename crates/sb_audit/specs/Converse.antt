-- What a report must be for its transcript to pass an audit.
use Rattle.std.specs.Prelude.{◌≡◌, List, length}
use Rattle.sb_book.specs.Readiness.{IsReady}
use Rattle.sb_book.specs.Reports.{result_count}
use Rattle.sb_book.specs.declared.reports.Report.{Report}
use Rattle.sb_core.specs.Fits.{Fits}
use Rattle.sb_transcript.specs.Printable.{IsPrintable}
use Rattle.sb_rule.specs.declared.policies.Policy.{Policy}
use Rattle.sb_statements.specs.declared.scripts.Script.{Script}
use Rattle.sb_transcript.specs.Transcripts.{transcript}
use Rattle.sb_audit.specs.Audited.{audited}
use Rattle.sb_audit.specs.declared.answers.AuditAnswer.TheVariants.{Yes}

-- an audit of a report's transcript says yes, with the numbers of its entries and its results
abbrev pub IsAuditedYes : List Policy → Script → Report → Type 0
IsAuditedYes policies script report = audited policies script (transcript script report) ≡ Yes (length report.entries) (result_count report.results)

-- so it is if the report fits its script under its policies and can be printed
abbrev pub ReportsThatFitAreAudited : Type 0
ReportsThatFitAreAudited = (policies : List Policy) (script : Script) (report : Report) → IsReady policies script → Fits policies script report → IsPrintable report
    → IsAuditedYes policies script report
