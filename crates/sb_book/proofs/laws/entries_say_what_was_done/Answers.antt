use Rattle.sb_book.proofs.Sayings.{entries_say}
use Rattle.sb_book.proofs.laws.entries_say_what_was_done.Goals as goal

pub returns : goal.returns
returns c = entries_say c.first_rule_decides.ensures.deciding
