use Rattle.sb_rule.proofs.FirstRules.{no_rule_where_none_holds}
use Rattle.sb_rule.proofs.laws.no_rule_where_none_holds.Goals as goal

pub returns : goal.returns
returns c = no_rule_where_none_holds
