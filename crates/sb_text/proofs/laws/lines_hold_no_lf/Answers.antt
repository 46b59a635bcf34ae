use Rattle.sb_text.proofs.LineLaws.{no_lf}
use Rattle.sb_text.proofs.laws.lines_hold_no_lf.Goals as goal

pub returns : goal.returns
returns c = no_lf
