use Rattle.std.proofs.Common.{◌≡◌, ◌++◌, true, length}
use Rattle.std.specs.List.{list_all}
use Rattle.sb_rule.specs.Verdicts.{policy_at}
use Rattle.sb_local.specs.Denials.{fits_its_call}
use Rattle.sb_local.specs.Thinning.{thin_thread}
use Rattle.sb_local.proofs.thinning.thin_thread.Given as goal

-- what was kept and what is left give all that is kept
abbrev pub invariant-loop-statement : goal.invariant-loop-statement
invariant-loop-statement g l =
    (l.kept ++ thin_thread (policy_at (g.J.Judge.policies l.judge) l.target) l.rest
    ≡ thin_thread (policy_at (g.J.Judge.policies l.judge) l.target) l.statements)
    × (list_all fits_its_call l.rest ≡ true)

abbrev pub decreases-loop-statement : goal.decreases-loop-statement
decreases-loop-statement g l = length l.rest
