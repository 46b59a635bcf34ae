-- The last line: how often each decision was made, and how many results there are.
use Rattle.std.specs.Prelude.{ℕ, Bool, true, false, List, length, count_by}
use Rattle.sb_book.specs.Reports.{result_count}
use Rattle.sb_book.specs.declared.decisions.Decision.{Decision}
use Rattle.sb_book.specs.declared.decisions.Decision.TheVariants.{Refused, Denied, Faked, Performed}
use Rattle.sb_book.specs.declared.entries.Entry.{Entry}
use Rattle.sb_book.specs.declared.reports.Report.{Report}
use Rattle.sb_transcript.specs.Fields.{ended}
use Rattle.sb_transcript.specs.declared.read_lines.TotalsLine.{TotalsLine}
use Rattle.sb_transcript.specs.declared.read_lines.Line.TheVariants as line

-- a decision that is a performed call
abbrev pub is_performed : Decision → Bool
is_performed (Performed tag line action args) = true
is_performed (Faked tag line) = false
is_performed (Denied tag verdict) = false
is_performed (Refused fault) = false

-- a decision that is a faked call
abbrev pub is_faked : Decision → Bool
is_faked (Performed tag line action args) = false
is_faked (Faked tag line) = true
is_faked (Denied tag verdict) = false
is_faked (Refused fault) = false

-- a decision that is a denied call
abbrev pub is_denied : Decision → Bool
is_denied (Performed tag line action args) = false
is_denied (Faked tag line) = false
is_denied (Denied tag verdict) = true
is_denied (Refused fault) = false

-- a decision that is a refused block
abbrev pub is_refused : Decision → Bool
is_refused (Performed tag line action args) = false
is_refused (Faked tag line) = false
is_refused (Denied tag verdict) = false
is_refused (Refused fault) = true

-- how many entries have such a decision
abbrev pub count_of : (Decision → Bool) → List Entry → ℕ
count_of is_such entries = count_by (λ e. is_such e.decision) entries

-- the totals of a report
abbrev pub shown_totals : Report → TotalsLine
shown_totals report = record {
  entries = length report.entries;
  performed = count_of is_performed report.entries;
  faked = count_of is_faked report.entries;
  denied = count_of is_denied report.entries;
  refused = count_of is_refused report.entries;
  results = result_count report.results;
}

-- the last line
abbrev pub totals_line : Report → List ℕ
totals_line report = ended (line.Totals (shown_totals report))
