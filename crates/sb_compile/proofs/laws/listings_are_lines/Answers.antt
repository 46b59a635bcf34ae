use Rattle.sb_compile.proofs.Lines.{listings_are_lines}
use Rattle.sb_compile.proofs.laws.listings_are_lines.Goals as goal

pub returns : goal.returns
returns c = listings_are_lines
