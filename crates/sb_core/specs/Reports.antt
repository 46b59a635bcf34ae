-- The report of a world.
use Rattle.std.specs.Prelude.{List, map}
use Rattle.sb_statements.specs.declared.results.StmtResult.{StmtResult}
use Rattle.sb_core.specs.Shared.{SharedAt}
use Rattle.sb_core.specs.Threads.{RunAt}
use Rattle.sb_book.specs.declared.reports.Report.{Report}

-- the results of the threads of targets, by target, thread and place
abbrev pub results_of : List (List RunAt) → List (List (List StmtResult))
results_of threads = map (λ runs. map (λ x. x.results) runs) threads

-- every entry in order and the namespace that they led to, these results, and the channel words of each target
abbrev pub report_of : SharedAt → List (List (List StmtResult)) → Report
report_of s results = record { entries = s.book.entries; results = results; words = s.words; kernel = s.book.space }
