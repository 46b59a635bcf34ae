use Rattle.sb_book.proofs.HistoryLaws.{performed_calls_are_allowed}
use Rattle.sb_book.proofs.laws.performed_calls_are_allowed.Goals as goal

pub returns : goal.returns
returns c = performed_calls_are_allowed c.first_rule_decides.ensures.deciding
