use Rattle.sb_book.proofs.HistoryLaws.{fronts_are_legal}
use Rattle.sb_book.proofs.laws.fronts_are_legal.Goals as goal

pub returns : goal.returns
returns c = fronts_are_legal
