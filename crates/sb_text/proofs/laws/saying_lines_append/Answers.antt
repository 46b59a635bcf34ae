use Rattle.sb_text.proofs.LineLaws.{saying_append}
use Rattle.sb_text.proofs.laws.saying_lines_append.Goals as goal

pub returns : goal.returns
returns c = saying_append
