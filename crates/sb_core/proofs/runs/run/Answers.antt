use Rattle.std.proofs.Common.{rules}
use Rattle.sb_core.specs.Kept.{RunsUnder}
use Rattle.sb_core.proofs.runs.run.Goals as goal

pub make_steps-requires-clause-runs : goal.make_steps-requires-clause-runs
unfolding RunsUnder
make_steps-requires-clause-runs g c κs within = (search rules, search rules)

pub ended-requires-clause-judge : goal.ended-requires-clause-judge
unfolding RunsUnder
ended-requires-clause-judge g c κs within = c.in_ok-make_rounds.ensures.runs.1

pub ended-requires-clause-running : goal.ended-requires-clause-running
unfolding RunsUnder
ended-requires-clause-running g c κs within = c.in_ok-make_rounds.ensures.runs.0
