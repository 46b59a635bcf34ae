use Rattle.sb_rule.proofs.Matches.{matching_folds_the_string, matching_folds_the_literals}
use Rattle.sb_rule.proofs.pattern_laws.matching_folds.Goals as goal

pub returns-clause-string : goal.returns-clause-string
returns-clause-string c = matching_folds_the_string

pub returns-clause-literals : goal.returns-clause-literals
returns-clause-literals c = matching_folds_the_literals
