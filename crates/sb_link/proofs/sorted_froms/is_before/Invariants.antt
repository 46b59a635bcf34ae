use Rattle.std.proofs.Common.{◌≡◌, length}
use Rattle.sb_link.specs.SortedFroms.{is_before}
use Rattle.sb_link.proofs.sorted_froms.is_before.Given as goal

abbrev pub invariant-loop-x : goal.invariant-loop-x
invariant-loop-x l = is_before l.first l.second ≡ is_before l.a l.b

abbrev pub decreases-loop-x : goal.decreases-loop-x
decreases-loop-x l = length l.first
