use Rattle.sb_scripttext.proofs.ReadWritable.{read_scripts_have_units}
use Rattle.sb_scripttext.proofs.laws.read_scripts_have_units.Goals as goal

pub returns : goal.returns
returns c = read_scripts_have_units c.quoted_strings_are_read.ensures.read c.quoted_tokens_are_text.ensures
