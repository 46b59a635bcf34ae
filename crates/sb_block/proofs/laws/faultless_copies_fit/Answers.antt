use Rattle.sb_block.proofs.FaultLemmas.{faultless_copies_fit}
use Rattle.sb_block.proofs.laws.faultless_copies_fit.Goals as goal

pub returns : goal.returns
returns c = faultless_copies_fit
