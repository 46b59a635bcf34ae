use Rattle.sb_local.proofs.Denying.{denials_are_decisions}
use Rattle.sb_local.proofs.laws.denials_are_decisions.Goals as goal

pub returns : goal.returns
returns c = denials_are_decisions c.sound_parts.ensures.targets c.sound_parts.ensures.statements c.blocks_come_back.ensures
