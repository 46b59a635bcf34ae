-- When a report can be printed and read back: the numbers that its lines show are in the ranges of their types.
use Rattle.std.specs.Prelude.{◌≡◌, ◌<◌, ◌^◌, ℕ, List, length, slice_get, Some}
use Rattle.sb_block.specs.Copies.{mark_of}
use Rattle.sb_book.specs.declared.entries.Entry.{Entry}
use Rattle.sb_book.specs.declared.reports.Report.{Report}
use Rattle.sb_statements.specs.declared.results.StmtResult.{StmtResult}
use Rattle.sb_transcript.specs.Printed.{shown_decision, shown_reply, shown_result}
use Rattle.sb_transcript.specs.Ranges.{DecisionInRange, ReplyInRange, ResultInRange}

-- the numbers that the line of an entry shows are in the ranges of their types
pub record IsPrintableEntry (e : Entry) : Type 0 where
  pub mark : mark_of e.taken < 2 ^ 64
  pub decision : DecisionInRange (shown_decision e.decision)
  pub reply : ReplyInRange (shown_reply e.reply)

-- it holds of each element
abbrev pub Each : {A : Type 0} → (A → Type 0) → List A → Type 0
Each {A} P xs = (n : ℕ) (x : A) → slice_get xs n ≡ Some x → P x

-- the numbers that the line of a result shows are in the ranges of their types
abbrev pub IsPrintableResult : StmtResult → Type 0
IsPrintableResult r = ResultInRange (shown_result r)

-- and so are those of all results of a target
abbrev pub ArePrintableResults : List (List StmtResult) → Type 0
ArePrintableResults threads = Each (λ results. Each IsPrintableResult results) threads

-- A report can be printed and read back: the numbers that its lines show are in the ranges of their types, and its entries can be counted in 64 bits
pub record IsPrintable (report : Report) : Type 0 where
  pub entries : Each IsPrintableEntry report.entries
  pub results : Each ArePrintableResults report.results
  pub few : length report.entries < 2 ^ 64
