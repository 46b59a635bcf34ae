use Rattle.sb_transcript.proofs.LinesBack.{read_written}
use Rattle.sb_transcript.proofs.reading_laws.read_lines_are_written.Goals as goal

pub returns : goal.returns
returns c = read_written
