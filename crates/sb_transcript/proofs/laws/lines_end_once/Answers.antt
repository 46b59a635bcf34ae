use Rattle.sb_transcript.proofs.EndLaws.{lines_end_once}
use Rattle.sb_transcript.proofs.laws.lines_end_once.Goals as goal

pub returns : goal.returns
returns c = lines_end_once
