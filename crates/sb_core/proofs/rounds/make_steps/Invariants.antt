use Rattle.std.proofs.Common.{◌≡◌, true, length}
use Rattle.std.specs.List.{list_all}
use Rattle.sb_core.specs.Actors.{scheduled}
use Rattle.sb_statements.specs.Actors.{is_step_there}
use Rattle.sb_core.specs.Kept.{RunsUnder}
use Rattle.sb_core.specs.Worlds.{steps}
use Rattle.sb_core.proofs.rounds.make_steps.Given as goal

abbrev pub invariant-loop-entry : goal.invariant-loop-entry
invariant-loop-entry g l =
    (steps l.script (scheduled l.rest) l.world ≡ steps l.script (scheduled l.entries) l.fn.world)
    × (list_all (is_step_there l.script.targets) l.rest ≡ true)
    × RunsUnder (g.J.Judge.policies l.judge) l.script l.world

abbrev pub decreases-loop-entry : goal.decreases-loop-entry
decreases-loop-entry g l = length l.rest
