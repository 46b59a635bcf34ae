use Rattle.sb_text.proofs.QuotedText.{quoted_text}
use Rattle.sb_text.proofs.laws.quoted_tokens_are_text.Goals as goal

pub returns : goal.returns
returns c = quoted_text
