use Rattle.sb_text.proofs.LineLaws.{joined}
use Rattle.sb_text.proofs.laws.raw_lines_join.Goals as goal

pub returns : goal.returns
returns c = joined
