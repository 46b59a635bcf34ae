use Rattle.std.proofs.Common.{◌≡◌, drop}
use Rattle.sb_compare.specs.Comparing.{policy_named}
use Rattle.sb_compare.proofs.comparing.policy_named.Given as goal

abbrev pub invariant-loop-policy : goal.invariant-loop-policy
invariant-loop-policy l = policy_named l.name (drop l.policy-index l.policies) ≡ policy_named l.name l.policies
