use Rattle.sb_text.proofs.NumberLaws.{hexadecimals}
use Rattle.sb_text.proofs.laws.hexadecimals_are_read.Goals as goal

pub returns : goal.returns
returns c = hexadecimals
