use Rattle.sb_core.proofs.Ending.{ends_are_runs, ends_can_finish}
use Rattle.sb_core.proofs.laws.ends_are_runs.Goals as goal

pub returns-clause-runs : goal.returns-clause-runs
returns-clause-runs c = ends_are_runs

pub returns-clause-finish : goal.returns-clause-finish
returns-clause-finish c = ends_can_finish c.sound_parts.ensures.targets c.sound_parts.ensures.statements c.runs_are_whole.ensures.finished
