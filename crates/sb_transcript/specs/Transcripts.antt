-- The whole transcript.
use Rattle.std.specs.Prelude.{ℕ, ◌+◌, List, [], ◌∷◌, ◌++◌, length}
use Rattle.sb_statements.specs.declared.results.StmtResult.{StmtResult}
use Rattle.sb_statements.specs.declared.scripts.Script.{Script}
use Rattle.sb_book.specs.Reports.{result_count}
use Rattle.sb_book.specs.declared.entries.Entry.{Entry}
use Rattle.sb_book.specs.declared.reports.Report.{Report}
use Rattle.sb_outside.specs.Outside.{joined}
use Rattle.sb_transcript.specs.EntryLines.{entry_line}
use Rattle.sb_transcript.specs.ResultLines.{result_line}
use Rattle.sb_transcript.specs.Totals.{totals_line}

-- the lines of entries, the first of which has the number n
abbrev pub entry_lines : Script → ℕ → List Entry → List (List ℕ)
entry_lines script n [] = []
entry_lines script n (e ∷ es) = entry_line script n e ∷ entry_lines script (n + 1) es

-- the lines of a thread's results, the first of which has this place
abbrev pub thread_lines : Script → ℕ → ℕ → ℕ → List StmtResult → List (List ℕ)
thread_lines script target thread place [] = []
thread_lines script target thread place (r ∷ rs) = result_line script target thread place r ∷ thread_lines script target thread (place + 1) rs

-- the lines of a target's results, the first thread of which has this number
abbrev pub target_lines : Script → ℕ → ℕ → List (List StmtResult) → List (List ℕ)
target_lines script target thread [] = []
target_lines script target thread (rs ∷ more) = thread_lines script target thread 0 rs ++ target_lines script target (thread + 1) more

-- the lines of results, the first target of which has this number
abbrev pub result_lines : Script → ℕ → List (List (List StmtResult)) → List (List ℕ)
result_lines script target [] = []
result_lines script target (threads ∷ more) = target_lines script target 0 threads ++ result_lines script (target + 1) more

-- a line for each entry in order, one for each result by target, thread and place, and the totals
abbrev pub transcript_lines : Script → Report → List (List ℕ)
transcript_lines script report = entry_lines script 0 report.entries ++ result_lines script 0 report.results ++ totals_line report ∷ []

-- how many lines there are
abbrev pub line_count : Report → ℕ
line_count report = length report.entries + result_count report.results + 1

-- the lines one after another
abbrev pub transcript : Script → Report → List ℕ
transcript script report = joined (transcript_lines script report)
