use Rattle.std.specs.List.{slice_split}
use Rattle.std.proofs.Common.{◌≡◌, ◌+◌, ◌≤◌, ◌++◌, length}
use Rattle.sb_rule.specs.Chunks.{is_any}
use Rattle.sb_compile.specs.Compiling.{closed, later_code}
use Rattle.sb_compile.proofs.patterns.push_later.Given as goal

abbrev pub invariant-loop-run : goal.invariant-loop-run
invariant-loop-run l =
    (l.code ++ closed l.group.negated (later_code l.group.param (slice_split is_any l.rest))
    ≡ l.fn.code ++ closed l.group.negated (later_code l.group.param (slice_split is_any l.cells)))
    × (length l.code + length l.rest ≤ length l.fn.code + length l.cells)

abbrev pub decreases-loop-run : goal.decreases-loop-run
decreases-loop-run l = length l.rest
