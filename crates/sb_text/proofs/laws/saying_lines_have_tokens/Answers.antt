use Rattle.sb_text.proofs.TokenLaws.{have_tokens}
use Rattle.sb_text.proofs.laws.saying_lines_have_tokens.Goals as goal

pub returns : goal.returns
returns c = have_tokens
