use Rattle.sb_book.proofs.HistoryLaws.{only_performed_calls_count}
use Rattle.sb_book.proofs.laws.only_performed_calls_count.Goals as goal

pub returns : goal.returns
returns c = only_performed_calls_count
