use Rattle.sb_base.proofs.Folding.{same_as_folded}
use Rattle.sb_base.proofs.laws.same_as_folded.Goals as goal

pub returns : goal.returns
returns c = same_as_folded
