use Rattle.std.proofs.Common.{◌≡◌}
use Rattle.sb_core.specs.Kept.{RunsUnder}
use Rattle.sb_core.specs.Worlds.{rounds}
use Rattle.sb_core.proofs.rounds.make_rounds.Given as goal

abbrev pub invariant-loop-left : goal.invariant-loop-left
invariant-loop-left g l =
    (rounds l.left l.script l.world ≡ rounds l.count l.script l.fn.world)
    × RunsUnder (g.J.Judge.policies l.judge) l.script l.world

abbrev pub decreases-loop-left : goal.decreases-loop-left
decreases-loop-left g l = l.left
