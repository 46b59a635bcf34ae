use Rattle.sb_transcript.proofs.EndLaws.{transcripts_tell_their_lines}
use Rattle.sb_transcript.proofs.laws.transcripts_tell_their_lines.Goals as goal

pub returns : goal.returns
returns c = transcripts_tell_their_lines
