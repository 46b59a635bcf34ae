use Rattle.sb_text.proofs.TokenLaws.{written}
use Rattle.sb_text.proofs.laws.written_tokens_are_read.Goals as goal

pub returns : goal.returns
returns c = written
