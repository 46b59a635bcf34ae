use Rattle.sb_book.proofs.Legal.{answered_is_legal}
use Rattle.sb_book.proofs.laws.answers_keep_histories.Goals as goal

pub returns : goal.returns
returns c = answered_is_legal
