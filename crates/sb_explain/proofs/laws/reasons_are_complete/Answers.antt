use Rattle.sb_explain.proofs.Telling.{reasons_are_complete}
use Rattle.sb_explain.proofs.laws.reasons_are_complete.Goals as goal

pub returns : goal.returns
returns c = reasons_are_complete
