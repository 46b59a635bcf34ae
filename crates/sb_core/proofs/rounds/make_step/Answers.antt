use Rattle.sb_core.specs.Kept.{RunsUnder}
use Rattle.sb_core.proofs.rounds.make_step.Goals as goal

pub step-requires-clause-judge : goal.step-requires-clause-judge
unfolding RunsUnder
step-requires-clause-judge g c κs within = c.requires.runs.1

pub step-requires-clause-running : goal.step-requires-clause-running
unfolding RunsUnder
step-requires-clause-running g c κs within = c.requires.runs.0
