use Rattle.sb_text.proofs.TokenLaws.{found}
use Rattle.sb_text.proofs.laws.tokens_are_found.Goals as goal

pub returns : goal.returns
returns c = found
