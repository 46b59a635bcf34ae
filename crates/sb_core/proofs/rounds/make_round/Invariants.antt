use Rattle.std.proofs.Common.{◌≡◌}
use Rattle.sb_core.specs.Actors.{first_actors}
use Rattle.sb_core.specs.Kept.{RunsUnder}
use Rattle.sb_core.specs.Worlds.{steps}
use Rattle.sb_core.proofs.rounds.make_round.Given as goal

-- the actors of the targets before this one made their steps
abbrev pub invariant-loop-target : goal.invariant-loop-target
invariant-loop-target g l =
    (l.world ≡ steps l.script (first_actors l.script.targets l.target) l.fn.world)
    × RunsUnder (g.J.Judge.policies l.judge) l.script l.world
