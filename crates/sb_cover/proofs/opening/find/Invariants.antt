use Rattle.std.proofs.Common.{◌≤◌, length}
use Rattle.sb_cover.proofs.opening.find.Given as goal

abbrev pub invariant-loop-number : goal.invariant-loop-number
invariant-loop-number l = l.number ≤ length l.conds
