-- Laws of the transcript: its lines are those of the entries, then those of the results, then the totals, each once and in order.
use Rattle.std.specs.Prelude.{◌≡◌, ℕ, ◌+◌, ◌<◌, ◌⊎◌, true, ◌==◌, List, [], ◌∷◌, length, Some, IsSome, slice_get, if◌then◌else◌}
use Rattle.std.specs.List.{list_all, onto_first}
use Rattle.sb_rule.specs.declared.policies.Policy.{Policy}
use Rattle.sb_statements.specs.declared.results.StmtResult.{StmtResult}
use Rattle.sb_statements.specs.declared.scripts.Script.{Script}
use Rattle.sb_book.specs.Readiness.{IsReady}
use Rattle.sb_book.specs.Reports.{result_count}
use Rattle.sb_book.specs.declared.entries.Entry.{Entry}
use Rattle.sb_book.specs.declared.reports.Report.{Report}
use Rattle.sb_base.specs.OneLine.{is_one_line}
use Rattle.sb_transcript.specs.EntryLines.{entry_line}
use Rattle.sb_transcript.specs.ResultLines.{result_line}
use Rattle.sb_transcript.specs.Totals.{totals_line}
use Rattle.sb_transcript.specs.Transcripts.{line_count, transcript, transcript_lines}
use Rattle.sb_transcript.specs.Places.{result_at, results_before}

-- there are as many lines as are counted
abbrev pub LinesAreCounted : Type 0
LinesAreCounted = (script : Script) (report : Report) → length (transcript_lines script report) ≡ line_count report

-- line n is that of entry n
abbrev pub EntriesComeFirst : Type 0
EntriesComeFirst = (script : Script) (report : Report) (n : ℕ) (entry : Entry) → slice_get report.entries n ≡ Some entry
    → slice_get (transcript_lines script report) n ≡ Some (entry_line script n entry)

-- the line of a result comes after those of all entries and of the results before it
abbrev pub ResultsFollow : Type 0
ResultsFollow = (script : Script) (report : Report) (target thread place : ℕ) (result : StmtResult)
    → result_at report.results target thread place ≡ Some result
    → slice_get (transcript_lines script report) (length report.entries + results_before report.results target thread place)
    ≡ Some (result_line script target thread place result)

-- the line after those of all entries and results is the totals
abbrev pub TotalsEnd : Type 0
TotalsEnd = (script : Script) (report : Report)
    → slice_get (transcript_lines script report) (length report.entries + result_count report.results) ≡ Some (totals_line report)

-- each number below that of all results is how many come before one of them
abbrev pub NumbersAreResults : Type 0
NumbersAreResults = (results : List (List (List StmtResult))) (n : ℕ) → n < result_count results
    → (target : ℕ) × (thread : ℕ) × (place : ℕ) × IsSome (result_at results target thread place) × (results_before results target thread place ≡ n)

-- of two places, each a target, a thread and a place there, the first comes before the second
abbrev pub ComesBefore : ℕ × ℕ × ℕ → ℕ × ℕ × ℕ → Type 0
ComesBefore a b = (a.0 < b.0) ⊎ ((a.0 ≡ b.0) × ((a.1 < b.1) ⊎ ((a.1 ≡ b.1) × (a.2 < b.2))))

-- more results come before the later of two
abbrev pub ResultsAreInOrder : Type 0
ResultsAreInOrder = (results : List (List (List StmtResult))) (a b : ℕ × ℕ × ℕ) → IsSome (result_at results a.0 a.1 a.2) → ComesBefore a b
    → results_before results a.0 a.1 a.2 < results_before results b.0 b.1 b.2

-- each line ends with LF and holds no other
abbrev pub LinesEndOnce : Type 0
LinesEndOnce = (policies : List Policy) (script : Script) (report : Report) → IsReady policies script
    → list_all is_one_line (transcript_lines script report) ≡ true

-- bytes, cut after each LF
abbrev pub cut_after_lf : List ℕ → List (List ℕ)
cut_after_lf [] = []
cut_after_lf (b ∷ bs) = if b == 10 then (b ∷ []) ∷ cut_after_lf bs else onto_first b (cut_after_lf bs)

-- a transcript that is cut after each LF falls into its lines
abbrev pub TranscriptsTellTheirLines : Type 0
TranscriptsTellTheirLines = (policies : List Policy) (script : Script) (report : Report) → IsReady policies script
    → cut_after_lf (transcript script report) ≡ transcript_lines script report
