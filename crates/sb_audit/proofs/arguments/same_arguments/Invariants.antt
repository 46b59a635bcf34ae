use Rattle.std.proofs.Common.{◌≡◌, length}
use Rattle.sb_audit.specs.Comparing.{same_arguments}
use Rattle.sb_audit.proofs.arguments.same_arguments.Given as goal

-- what is left is the same if all is
abbrev pub invariant-loop-first : goal.invariant-loop-first
invariant-loop-first l = same_arguments l.left l.right ≡ same_arguments l.a l.b

abbrev pub decreases-loop-first : goal.decreases-loop-first
decreases-loop-first l = length l.left
