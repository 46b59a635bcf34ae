use Rattle.sb_transcript.proofs.EndLaws.{lines_end_without_cr}
use Rattle.sb_transcript.proofs.reading_laws.lines_end_without_cr.Goals as goal

pub returns : goal.returns
returns c = lines_end_without_cr
