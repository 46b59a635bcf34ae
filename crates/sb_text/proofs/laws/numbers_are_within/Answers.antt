use Rattle.sb_text.proofs.LineLaws.{within}
use Rattle.sb_text.proofs.laws.numbers_are_within.Goals as goal

pub returns : goal.returns
returns c = within
