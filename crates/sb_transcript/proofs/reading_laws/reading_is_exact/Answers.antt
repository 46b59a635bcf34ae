use Rattle.sb_transcript.proofs.LinesBack.{exact}
use Rattle.sb_transcript.proofs.reading_laws.reading_is_exact.Goals as goal

pub returns : goal.returns
returns c = exact
