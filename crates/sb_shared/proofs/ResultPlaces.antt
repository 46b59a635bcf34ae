-- Room for the result of a statement.
use Rattle.std.proofs.Common.{◌<◌, ◌≤◌, ℕ, List, [], ◌∷◌, ◌++◌, length, arith, length-append, option_to_list, Option, None, Some, IfSome}
use Rattle.sb_statements.specs.declared.results.StmtResult.{StmtResult}

-- a list in which its results and that of the statement that ended fit has room for it
pub room_for : (ended : Option StmtResult) (results : List StmtResult) (room : ℕ) → length (results ++ option_to_list ended) ≤ room → IfSome ended (λ r. length results < room)
room_for None results room h = tt
room_for (Some r) results room h = let l = length-append results (r ∷ []) in omega (arith, h, l)
