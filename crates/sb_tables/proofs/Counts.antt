-- How many results there are if one thread has all of them.
use Rattle.std.proofs.Common.{◌≡◌, ◌<◌, ◌^◌, List, [], ◌∷◌, length, arith}
use Rattle.sb_book.specs.Reports.{result_count}
use Rattle.sb_statements.specs.declared.results.StmtResult.{StmtResult}

pub of_single_thread : (replies : List StmtResult) → length replies < 2 ^ 62 → result_count ((replies ∷ []) ∷ []) < 2 ^ 62
of_single_thread replies h = let one : result_count ((replies ∷ []) ∷ []) ≡ length replies = omega arith in omega (arith, one, h)
