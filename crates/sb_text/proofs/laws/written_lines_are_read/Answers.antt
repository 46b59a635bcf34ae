use Rattle.sb_text.proofs.LineLaws.{written_lines}
use Rattle.sb_text.proofs.laws.written_lines_are_read.Goals as goal

pub returns : goal.returns
returns c = written_lines
