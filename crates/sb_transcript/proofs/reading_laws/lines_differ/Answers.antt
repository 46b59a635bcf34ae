use Rattle.sb_transcript.proofs.LinesBack.{differ}
use Rattle.sb_transcript.proofs.reading_laws.lines_differ.Goals as goal

pub returns : goal.returns
returns c = differ
