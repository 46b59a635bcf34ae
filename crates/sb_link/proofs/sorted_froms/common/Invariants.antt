use Rattle.std.proofs.Common.{◌≡◌, ◌≤◌, ◌+◌, ◌-◌, length}
use Rattle.sb_link.specs.SortedFroms.{common}
use Rattle.sb_link.proofs.sorted_froms.common.Given as goal

abbrev pub invariant-loop-x : goal.invariant-loop-x
invariant-loop-x l = (length l.first ≤ length l.a) × ((length l.a - length l.first) + common l.first l.second ≡ common l.a l.b)

abbrev pub decreases-loop-x : goal.decreases-loop-x
decreases-loop-x l = length l.first
