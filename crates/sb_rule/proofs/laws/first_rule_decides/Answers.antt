use Rattle.sb_rule.proofs.FirstRules.{first_rule_decides, deciding_rule_is_first}
use Rattle.sb_rule.proofs.laws.first_rule_decides.Goals as goal

pub returns-clause-first : goal.returns-clause-first
returns-clause-first c = first_rule_decides

pub returns-clause-deciding : goal.returns-clause-deciding
returns-clause-deciding c = deciding_rule_is_first
