use Rattle.std.proofs.Common.{◌≤◌, length}
use Rattle.sb_cover.proofs.lefts.find.Given as goal

abbrev pub invariant-loop-place : goal.invariant-loop-place
invariant-loop-place l = l.place ≤ length l.lists
