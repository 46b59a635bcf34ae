use Rattle.std.proofs.Common.{◌≡◌, ◌+◌, ◌++◌, ◌≤◌, List, true, length}
use Rattle.std.specs.Prelude.{slice_get}
use Rattle.std.specs.List.{list_all}
use Rattle.sb_statements.specs.PlacedStatements.{Placed, is_short_thread, placed_in_threads}
use Rattle.sb_statements.proofs.placed_statements.nth_in_threads.Given as goal

-- what is left of the threads has the same statement
abbrev pub invariant-loop-statements : goal.invariant-loop-statements
invariant-loop-statements l =
    ((rest : List Placed) → slice_get (placed_in_threads l.target l.thread l.rest ++ rest) l.left ≡ slice_get (placed_in_threads l.target 0 l.threads ++ rest) l.n)
    × (l.thread + length l.rest ≤ 4) × (list_all is_short_thread l.rest ≡ true)

abbrev pub decreases-loop-statements : goal.decreases-loop-statements
decreases-loop-statements l = length l.rest
