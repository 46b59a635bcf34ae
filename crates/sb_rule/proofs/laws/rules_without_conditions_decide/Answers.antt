use Rattle.sb_rule.proofs.FirstRules.{rules_without_conditions_decide}
use Rattle.sb_rule.proofs.laws.rules_without_conditions_decide.Goals as goal

pub returns : goal.returns
returns c = rules_without_conditions_decide
