use Rattle.sb_core.proofs.Changing.{steps_change_little}
use Rattle.sb_core.proofs.laws.steps_change_little.Goals as goal

pub returns : goal.returns
returns c = steps_change_little c.sound_parts.ensures.statements
