use Rattle.sb_transcript.proofs.LineLaws.{entries_come_first}
use Rattle.sb_transcript.proofs.laws.entries_come_first.Goals as goal

pub returns : goal.returns
returns c = entries_come_first
