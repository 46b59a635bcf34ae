use Rattle.sb_block.proofs.UnreadLemmas.{upper_halves_do_not_matter, unread_words_do_not_matter}
use Rattle.sb_block.proofs.laws.unread_parts_do_not_matter.Goals as goal

pub returns : goal.returns
returns c = record { words = unread_words_do_not_matter; halves = upper_halves_do_not_matter }
