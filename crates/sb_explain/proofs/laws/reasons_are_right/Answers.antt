use Rattle.sb_explain.proofs.Telling.{reasons_are_right}
use Rattle.sb_explain.proofs.laws.reasons_are_right.Goals as goal

pub returns : goal.returns
returns c = reasons_are_right
