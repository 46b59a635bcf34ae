use Rattle.sb_text.proofs.TokenLaws.{before_blank}
use Rattle.sb_text.proofs.laws.token_is_read_before_blank.Goals as goal

pub returns : goal.returns
returns c = before_blank
