use Rattle.sb_rule.proofs.Matches.{literals_match_the_same}
use Rattle.sb_rule.proofs.pattern_laws.literals_match_the_same.Goals as goal

pub returns : goal.returns
returns c = literals_match_the_same
