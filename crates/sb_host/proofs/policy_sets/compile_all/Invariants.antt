use Rattle.std.proofs.Common.{◌≡◌, ◌++◌, ◌-◌, ◌≤◌, drop, length, map}
use Rattle.sb_compile.specs.Compiling.{program_of}
use Rattle.sb_host.proofs.policy_sets.compile_all.Given as goal

-- what was compiled and what is left to compile give the whole
abbrev pub invariant-loop-policy : goal.invariant-loop-policy
invariant-loop-policy l =
    (l.items.items ++ map program_of (drop (length l.items.items) l.policies.list) ≡ map program_of l.policies.list)
    × (length l.items.items ≤ length l.policies.list)

abbrev pub decreases-loop-policy : goal.decreases-loop-policy
decreases-loop-policy l = length l.policies.list - length l.items.items
