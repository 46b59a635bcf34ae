use Rattle.sb_core.proofs.Belonging.{of_drains, of_runs, of_start, of_step}
use Rattle.sb_core.proofs.laws.worlds_are_of_scripts.Goals as goal

pub returns-clause-start : goal.returns-clause-start
returns-clause-start c = of_start

pub returns-clause-step : goal.returns-clause-step
returns-clause-step c = of_step

pub returns-clause-drain : goal.returns-clause-drain
returns-clause-drain c = of_drains c.sound_parts.ensures.targets c.sound_parts.ensures.statements

pub returns-clause-runs : goal.returns-clause-runs
returns-clause-runs c = of_runs c.sound_parts.ensures.targets c.sound_parts.ensures.statements
