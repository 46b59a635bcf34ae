use Rattle.sb_transcript.proofs.LineLaws.{totals_end}
use Rattle.sb_transcript.proofs.laws.totals_end.Goals as goal

pub returns : goal.returns
returns c = totals_end
