use Rattle.sb_text.proofs.TokenLaws.{plain}
use Rattle.sb_text.proofs.laws.plain_lines_have_words.Goals as goal

pub returns : goal.returns
returns c = plain
