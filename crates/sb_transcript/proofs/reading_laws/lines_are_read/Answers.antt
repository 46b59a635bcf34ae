use Rattle.sb_transcript.proofs.LinesBack.{lines_read}
use Rattle.sb_transcript.proofs.reading_laws.lines_are_read.Goals as goal

pub returns : goal.returns
returns c = lines_read
