use Rattle.std.proofs.Common.{◌≡◌, ◌++◌, [], length}
use Rattle.sb_link.specs.SortedFroms.{inserted}
use Rattle.sb_link.proofs.sorted_froms.index_with.Given as goal

abbrev pub invariant-loop-entry : goal.invariant-loop-entry
invariant-loop-entry l = l.all.items ++ inserted l.links l.from l.place l.before l.rest ≡ inserted l.links l.from l.place [] l.sorted

abbrev pub decreases-loop-entry : goal.decreases-loop-entry
decreases-loop-entry l = length l.rest
