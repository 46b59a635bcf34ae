use Rattle.sb_opcode.proofs.GroupLemmas.{parts_are_the_list}
use Rattle.sb_opcode.proofs.WholeLemmas.{faultless_codes_are_whole}
use Rattle.sb_opcode.proofs.laws.faultless_codes_are_whole.Goals as goal

pub returns-clause-parts : goal.returns-clause-parts
returns-clause-parts c = parts_are_the_list

pub returns-clause-whole : goal.returns-clause-whole
returns-clause-whole c = faultless_codes_are_whole
