use Rattle.std.proofs.Common.{◌≡◌, length}
use Rattle.sb_rule.specs.WellMade.{are_named_apart}
use Rattle.sb_rule.proofs.checks.are_named_apart.Given as goal

abbrev pub invariant-loop-policy : goal.invariant-loop-policy
invariant-loop-policy l = are_named_apart l.rest ≡ are_named_apart l.policies

abbrev pub decreases-loop-policy : goal.decreases-loop-policy
decreases-loop-policy l = length l.rest
