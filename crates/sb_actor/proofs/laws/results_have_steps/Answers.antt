use Rattle.sb_actor.proofs.Finding.{results_have_steps, values_tell}
use Rattle.sb_actor.proofs.laws.results_have_steps.Goals as goal

pub returns-clause-values : goal.returns-clause-values
returns-clause-values c = values_tell

pub returns-clause-steps : goal.returns-clause-steps
returns-clause-steps c = results_have_steps
