use Rattle.sb_ruletext.proofs.Prefixes.{lines_before_are_read}
use Rattle.sb_ruletext.proofs.laws.lines_before_are_read.Goals as goal

pub returns : goal.returns
returns c = lines_before_are_read c.lines_before_are_read.ensures
