use Rattle.sb_explain.proofs.Telling.{deciding_reason_is_last, reasons_decide}
use Rattle.sb_explain.proofs.laws.reasons_decide.Goals as goal

pub returns-clause-decide : goal.returns-clause-decide
returns-clause-decide c = reasons_decide

pub returns-clause-last : goal.returns-clause-last
returns-clause-last c = deciding_reason_is_last
