use Rattle.sb_text.proofs.LineLaws.{append}
use Rattle.sb_text.proofs.laws.lines_append.Goals as goal

pub returns : goal.returns
returns c = append
