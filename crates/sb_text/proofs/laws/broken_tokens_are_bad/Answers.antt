use Rattle.sb_text.proofs.TokenLaws.{broken_tokens}
use Rattle.sb_text.proofs.laws.broken_tokens_are_bad.Goals as goal

pub returns : goal.returns
returns c = broken_tokens
