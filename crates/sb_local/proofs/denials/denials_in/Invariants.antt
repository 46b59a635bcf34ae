use Rattle.std.proofs.Common.{◌≡◌, ◌++◌, true, length}
use Rattle.std.specs.List.{list_all}
use Rattle.sb_local.specs.Denials.{can_be_judged, denials_in}
use Rattle.sb_local.proofs.denials.denials_in.Given as goal

-- what was denied and what is left give all that is denied
abbrev pub invariant-loop-first : goal.invariant-loop-first
invariant-loop-first g l =
    (l.denied ++ denials_in (g.J.Judge.policies l.judge) l.rest ≡ denials_in (g.J.Judge.policies l.judge) l.initial.rest)
    × (list_all (can_be_judged (g.J.Judge.policies l.judge)) l.rest ≡ true)

abbrev pub decreases-loop-first : goal.decreases-loop-first
decreases-loop-first g l = length l.rest
