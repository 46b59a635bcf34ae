use Rattle.sb_rule.proofs.FirstRules.{appending_keeps_verdicts}
use Rattle.sb_rule.proofs.laws.appending_keeps_verdicts.Goals as goal

pub returns : goal.returns
returns c = appending_keeps_verdicts
