-- Where a result is among all.
use Rattle.std.specs.Prelude.{ℕ, ◌+◌, List, [], take, Option, slice_get, slice_index_or}
use Rattle.sb_statements.specs.declared.results.StmtResult.{StmtResult}
use Rattle.sb_book.specs.Reports.{result_count, thread_count}

-- the results of a target by thread, none if there is no such target
abbrev pub threads_of : List (List (List StmtResult)) → ℕ → List (List StmtResult)
threads_of results target = slice_index_or results target []

-- the result at a place of a thread of a target, if there is one
abbrev pub result_at : List (List (List StmtResult)) → ℕ → ℕ → ℕ → Option StmtResult
result_at results target thread place = slice_get (slice_index_or (threads_of results target) thread []) place

-- how many results come before it: those of the targets before, of the target's threads before, and of its thread before its place
abbrev pub results_before : List (List (List StmtResult)) → ℕ → ℕ → ℕ → ℕ
results_before results target thread place =
    result_count (take target results) + thread_count (take thread (threads_of results target)) + place
