use Rattle.sb_block.proofs.WellFormed.{well_formed_words_have_no_fault}
use Rattle.sb_block.proofs.laws.nothing_else_is_refused.Goals as goal

pub returns : goal.returns
returns c = well_formed_words_have_no_fault
