use Rattle.sb_text.proofs.TokenLaws.{first_skips}
use Rattle.sb_text.proofs.laws.first_token_skips.Goals as goal

pub returns : goal.returns
returns c = first_skips
