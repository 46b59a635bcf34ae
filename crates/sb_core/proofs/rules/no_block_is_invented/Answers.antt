use Rattle.sb_core.proofs.Tallying.{entries_are_few}
use Rattle.sb_core.proofs.Tracing.{no_block_is_invented}
use Rattle.sb_core.proofs.rules.no_block_is_invented.Goals as goal

pub returns-clause-sources : goal.returns-clause-sources
returns-clause-sources c = no_block_is_invented c.sound_parts.ensures.targets c.sound_parts.ensures.statements

pub returns-clause-few : goal.returns-clause-few
returns-clause-few c = entries_are_few c.sound_parts.ensures.targets c.sound_parts.ensures.statements
