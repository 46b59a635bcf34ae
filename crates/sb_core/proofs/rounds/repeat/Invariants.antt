use Rattle.std.proofs.Common.{◌≡◌, replicate}
use Rattle.sb_core.specs.Kept.{RunsUnder}
use Rattle.sb_core.specs.Worlds.{steps}
use Rattle.sb_core.proofs.rounds.repeat.Given as goal

abbrev pub invariant-loop-left : goal.invariant-loop-left
invariant-loop-left g l =
    (steps l.script (replicate l.left l.actor) l.world ≡ steps l.script (replicate l.count l.actor) l.fn.world)
    × RunsUnder (g.J.Judge.policies l.judge) l.script l.world

abbrev pub decreases-loop-left : goal.decreases-loop-left
decreases-loop-left g l = l.left
