use Rattle.std.proofs.Common.{◌≡◌, ◌++◌, ◌-◌, ◌≤◌, drop, length}
use Rattle.sb_plain.specs.Check.{listings}
use Rattle.sb_plain.proofs.check.listings.Given as goal

-- what was listed and what is left to list give the whole
abbrev pub invariant-loop-policy : goal.invariant-loop-policy
invariant-loop-policy l =
    (l.text.items ++ listings (drop l.number l.policies.list) ≡ listings l.policies.list) × (l.number ≤ length l.policies.list)

abbrev pub decreases-loop-policy : goal.decreases-loop-policy
decreases-loop-policy l = length l.policies.list - l.number
