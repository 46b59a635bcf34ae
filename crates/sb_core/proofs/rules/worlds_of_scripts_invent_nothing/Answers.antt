use Rattle.sb_core.proofs.Tallying.{worlds_are_few}
use Rattle.sb_core.proofs.Tracing.{worlds_are_sourced}
use Rattle.sb_core.proofs.rules.worlds_of_scripts_invent_nothing.Goals as goal

pub returns-clause-sources : goal.returns-clause-sources
returns-clause-sources c = worlds_are_sourced c.sound_parts.ensures.targets c.sound_parts.ensures.statements

pub returns-clause-few : goal.returns-clause-few
returns-clause-few c = worlds_are_few c.sound_parts.ensures.targets c.sound_parts.ensures.statements
