use Rattle.std.proofs.Common.{◌≡◌, ◌+◌, ◌++◌, ◌≤◌, true, length}
use Rattle.std.specs.List.{list_all}
use Rattle.sb_local.specs.Thinning.{fits_in_target, thin_targets}
use Rattle.sb_local.proofs.thinning.thin_targets.Given as goal

-- what was thinned and what is left give all targets
abbrev pub invariant-loop-script : goal.invariant-loop-script
invariant-loop-script g l =
    (l.thinned ++ thin_targets (g.J.Judge.policies l.judge) l.target l.rest ≡ thin_targets (g.J.Judge.policies l.judge) 0 l.targets)
    × (list_all fits_in_target l.rest ≡ true) × (l.target + length l.rest ≤ length (g.J.Judge.policies l.judge)) × (l.target + length l.rest ≤ 8)

abbrev pub decreases-loop-script : goal.decreases-loop-script
decreases-loop-script g l = length l.rest
