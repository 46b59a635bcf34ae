use Rattle.std.proofs.Common.{◌≡◌, length}
use Rattle.sb_cover.proofs.lefts.are_same_rules.Given as goal

abbrev pub invariant-loop-rule : goal.invariant-loop-rule
invariant-loop-rule l = l.a ≡ l.b → l.fn.a ≡ l.fn.b

abbrev pub decreases-loop-rule : goal.decreases-loop-rule
decreases-loop-rule l = length l.a
