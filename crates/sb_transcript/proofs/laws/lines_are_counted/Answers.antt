use Rattle.sb_transcript.proofs.LineLaws.{lines_are_counted}
use Rattle.sb_transcript.proofs.laws.lines_are_counted.Goals as goal

pub returns : goal.returns
returns c = lines_are_counted
