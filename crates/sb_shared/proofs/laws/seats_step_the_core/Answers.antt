use Rattle.sb_shared.proofs.Stepping.{seats_step_the_core}
use Rattle.sb_shared.proofs.laws.seats_step_the_core.Goals as goal

pub returns : goal.returns
returns c = seats_step_the_core c.steps_are_folds.ensures.steps
