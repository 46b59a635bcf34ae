use Rattle.sb_transcript.proofs.LineLaws.{results_follow}
use Rattle.sb_transcript.proofs.laws.results_follow.Goals as goal

pub returns : goal.returns
returns c = results_follow
