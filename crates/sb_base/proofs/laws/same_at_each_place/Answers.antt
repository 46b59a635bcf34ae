use Rattle.sb_base.proofs.Folding.{same_at_each_place}
use Rattle.sb_base.proofs.laws.same_at_each_place.Goals as goal

pub returns : goal.returns
returns c = same_at_each_place
