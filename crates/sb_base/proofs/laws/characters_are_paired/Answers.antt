use Rattle.sb_base.proofs.Pairs.{characters_are_paired, paired_units_are_characters}
use Rattle.sb_base.proofs.laws.characters_are_paired.Goals as goal

pub returns-clause-characters : goal.returns-clause-characters
returns-clause-characters c = characters_are_paired

pub returns-clause-units : goal.returns-clause-units
returns-clause-units c = paired_units_are_characters
