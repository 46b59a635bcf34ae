use Rattle.sb_text.proofs.LineLaws.{raw_bytes}
use Rattle.sb_text.proofs.laws.raw_lines_are_lines.Goals as goal

pub returns : goal.returns
returns c = raw_bytes
