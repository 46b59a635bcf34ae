use Rattle.sb_core.proofs.Running.{plans_are_there}
use Rattle.sb_core.proofs.Existence.{as_many, targets_there}
use Rattle.sb_core.proofs.laws.plans_are_there.Goals as goal

pub returns-clause-targets : goal.returns-clause-targets
returns-clause-targets c = λ script w kept runs. (as_many script w kept runs, targets_there script w kept runs)

pub returns-clause-plans : goal.returns-clause-plans
returns-clause-plans c = plans_are_there c.sound_parts.ensures.statements
