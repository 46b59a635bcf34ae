-- What a report holds.
use Rattle.std.specs.Prelude.{ℕ, List, length, sum_by}
use Rattle.sb_statements.specs.declared.results.StmtResult.{StmtResult}

-- how many results the threads of a target have
abbrev pub thread_count : List (List StmtResult) → ℕ
thread_count threads = sum_by (λ results. length results) threads

-- how many results there are
abbrev pub result_count : List (List (List StmtResult)) → ℕ
result_count targets = sum_by thread_count targets
