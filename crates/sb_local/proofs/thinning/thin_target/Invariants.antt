use Rattle.std.proofs.Common.{◌≡◌, ◌++◌, true, length, map}
use Rattle.std.specs.List.{list_all}
use Rattle.sb_rule.specs.Verdicts.{policy_at}
use Rattle.sb_local.specs.Thinning.{fits_in_thread, thin_thread}
use Rattle.sb_local.proofs.thinning.thin_target.Given as goal

-- what was thinned and what is left give all threads
abbrev pub invariant-loop-statements : goal.invariant-loop-statements
invariant-loop-statements g l =
    (l.threads ++ map (thin_thread (policy_at (g.J.Judge.policies l.judge) l.target)) l.rest
    ≡ map (thin_thread (policy_at (g.J.Judge.policies l.judge) l.target)) l.script.threads)
    × (list_all fits_in_thread l.rest ≡ true)

abbrev pub decreases-loop-statements : goal.decreases-loop-statements
decreases-loop-statements g l = length l.rest
