use Rattle.sb_explain.proofs.Telling.{reasons_decide_entries}
use Rattle.sb_explain.proofs.laws.reasons_decide_entries.Goals as goal

pub returns : goal.returns
returns c = reasons_decide_entries
