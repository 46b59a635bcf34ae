use Rattle.sb_text.proofs.NumberLaws.{decimals}
use Rattle.sb_text.proofs.laws.decimals_are_read.Goals as goal

pub returns : goal.returns
returns c = decimals
