use Rattle.sb_text.proofs.TokenLaws.{blanks}
use Rattle.sb_text.proofs.laws.blanks_are_nothing.Goals as goal

pub returns : goal.returns
returns c = blanks
