use Rattle.sb_core.proofs.Telling.{runs_are_caused, worlds_are_caused}
use Rattle.sb_core.proofs.laws.reports_have_causes.Goals as goal

pub returns-clause-worlds : goal.returns-clause-worlds
returns-clause-worlds c =
    worlds_are_caused c.results_have_steps.ensures.values c.results_have_causes.ensures c.sound_parts.ensures.targets c.sound_parts.ensures.statements

pub returns-clause-runs : goal.returns-clause-runs
returns-clause-runs c = runs_are_caused c.results_have_steps.ensures.values c.results_have_causes.ensures c.sound_parts.ensures.targets c.sound_parts.ensures.statements
