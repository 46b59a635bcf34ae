use Rattle.sb_core.proofs.Beginning.{drains_keep}
use Rattle.sb_core.proofs.Running.{step_keeps}
use Rattle.sb_core.proofs.Starting.{starts_keep}
use Rattle.sb_core.proofs.laws.worlds_keep.Goals as goal

pub returns-clause-start : goal.returns-clause-start
returns-clause-start c = starts_keep c.sound_parts.ensures.targets c.sound_parts.ensures.statements

pub returns-clause-step : goal.returns-clause-step
returns-clause-step c = step_keeps c.sound_parts.ensures.statements

pub returns-clause-drain : goal.returns-clause-drain
returns-clause-drain c = drains_keep c.sound_parts.ensures.statements
