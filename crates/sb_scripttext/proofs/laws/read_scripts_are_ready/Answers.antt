use Rattle.sb_scripttext.proofs.Keeping.{short_of}
use Rattle.sb_scripttext.proofs.ReadWritable.{read_scripts_can_be_written, read_scripts_have_units}
use Rattle.sb_scripttext.proofs.Ready.{scripts_are_ready}
use Rattle.sb_scripttext.proofs.laws.read_scripts_are_ready.Goals as goal

pub returns : goal.returns
returns c = λ policies text script made e. record {
  ready = scripts_are_ready policies text script made e;
  units = read_scripts_have_units c.quoted_strings_are_read.ensures.read c.quoted_tokens_are_text.ensures policies text script e;
  short = short_of script (read_scripts_can_be_written c.quoted_strings_are_read.ensures.read c.quoted_tokens_are_text.ensures policies text script e);
}
