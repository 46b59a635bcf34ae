use Rattle.sb_rule.proofs.Matches.{star_matches_all}
use Rattle.sb_rule.proofs.pattern_laws.star_matches_all.Goals as goal

pub returns : goal.returns
returns c = star_matches_all
