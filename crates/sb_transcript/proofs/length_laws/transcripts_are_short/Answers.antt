use Rattle.sb_transcript.proofs.Lengths.{transcripts_are_short}
use Rattle.sb_transcript.proofs.length_laws.transcripts_are_short.Goals as goal

pub returns : goal.returns
returns c = transcripts_are_short c.faultless_copies_fit.ensures
