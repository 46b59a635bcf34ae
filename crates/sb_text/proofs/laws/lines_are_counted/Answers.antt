use Rattle.sb_text.proofs.LineLaws.{counted}
use Rattle.sb_text.proofs.laws.lines_are_counted.Goals as goal

pub returns : goal.returns
returns c = counted
