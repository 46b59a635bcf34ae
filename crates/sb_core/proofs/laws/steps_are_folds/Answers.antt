use Rattle.sb_core.proofs.Folding.{orders_are_schedules, steps_append}
use Rattle.sb_core.proofs.Beginning.{beginnings_are_steps, drains_are_steps, rounds_are_steps, workers_are_there}
use Rattle.sb_core.proofs.laws.steps_are_folds.Goals as goal

pub returns-clause-steps : goal.returns-clause-steps
returns-clause-steps c = steps_append

pub returns-clause-rounds : goal.returns-clause-rounds
returns-clause-rounds c = rounds_are_steps

pub returns-clause-drain : goal.returns-clause-drain
returns-clause-drain c = drains_are_steps

pub returns-clause-beginnings : goal.returns-clause-beginnings
returns-clause-beginnings c = beginnings_are_steps

pub returns-clause-there : goal.returns-clause-there
returns-clause-there c = workers_are_there

pub returns-clause-orders : goal.returns-clause-orders
returns-clause-orders c = orders_are_schedules
