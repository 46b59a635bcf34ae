-- How long a transcript is at most.
use Rattle.std.specs.Prelude.{◌<◌, ◌≤◌, ◌*◌, ◌^◌, ℕ, List, [], length, slice_index_or}
use Rattle.sb_book.specs.Histories.{IsEntry, IsHistory, setting_of}
use Rattle.sb_book.specs.Readiness.{IsReady}
use Rattle.sb_book.specs.Reports.{result_count}
use Rattle.sb_book.specs.declared.entries.Entry.{Entry}
use Rattle.sb_book.specs.declared.reports.Report.{Report}
use Rattle.sb_kernel.specs.Namespaces.{Space}
use Rattle.sb_rule.specs.declared.policies.Policy.{Policy}
use Rattle.sb_statements.specs.Limits.{most_statements, most_targets, most_threads}
use Rattle.sb_statements.specs.declared.results.StmtResult.{StmtResult}
use Rattle.sb_statements.specs.declared.scripts.Script.{Script}
use Rattle.sb_transcript.specs.EntryLines.{entry_line}
use Rattle.sb_transcript.specs.Printable.{IsPrintable, IsPrintableEntry, IsPrintableResult}
use Rattle.sb_transcript.specs.ResultLines.{result_line}
use Rattle.sb_transcript.specs.Totals.{totals_line}
use Rattle.sb_transcript.specs.Transcripts.{transcript}

-- the most bytes that the line of an entry may have: two names of 256 units, each unit written as six bytes, are most of it
abbrev pub most_entry_bytes : ℕ
most_entry_bytes = 3600

-- that of a result
abbrev pub most_result_bytes : ℕ
most_result_bytes = 400

-- and the totals
abbrev pub most_totals_bytes : ℕ
most_totals_bytes = 200

-- a script has at most so many statements: a run has at most so many entries, and so many results
abbrev pub most_lines : ℕ
most_lines = most_targets * (most_threads * most_statements)

-- the most bytes that a transcript may have
abbrev pub most_transcript_bytes : ℕ
most_transcript_bytes = 536870912

-- the line of an entry that follows from its copy
abbrev pub EntryLinesAreShort : Type 0
EntryLinesAreShort = (policies : List Policy) (script : Script) (ns : Space) (n : ℕ) (e : Entry) → IsReady policies script
    → IsEntry (setting_of policies script) ns e → IsPrintableEntry e → n < 2 ^ 64 → length (entry_line script n e) ≤ most_entry_bytes

-- the line of a result
abbrev pub ResultLinesAreShort : Type 0
ResultLinesAreShort = (policies : List Policy) (script : Script) (target thread place : ℕ) (r : StmtResult) → IsReady policies script → IsPrintableResult r
    → thread < 2 ^ 64 → place < 2 ^ 64 → length (result_line script target thread place r) ≤ most_result_bytes

-- the totals
abbrev pub TotalsAreShort : Type 0
TotalsAreShort = (report : Report) → length report.entries < 2 ^ 64 → result_count report.results < 2 ^ 64 → length (totals_line report) ≤ most_totals_bytes

-- A report of a script within its limits: its entries are a legal history, they are at most as many as a script may have statements, and so are the
-- results, of at most 4 threads of each target; and it can be printed
pub record IsWithinLimits (policies : List Policy) (script : Script) (report : Report) : Type 0 where
  pub history : IsHistory (record { setting = setting_of policies script; space = report.kernel; entries = report.entries })
  pub entries : length report.entries ≤ most_lines
  pub results : result_count report.results ≤ most_lines
  pub threads : (t : ℕ) → length (slice_index_or report.results t []) ≤ most_threads
  pub printable : IsPrintable report

-- its transcript
abbrev pub TranscriptsAreShort : Type 0
TranscriptsAreShort = (policies : List Policy) (script : Script) (report : Report) → IsReady policies script → IsWithinLimits policies script report
    → length (transcript script report) ≤ most_transcript_bytes
