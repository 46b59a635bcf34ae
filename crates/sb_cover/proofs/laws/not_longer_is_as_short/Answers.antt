use Rattle.sb_cover.proofs.LengthLemmas.{not_longer_is_as_short}
use Rattle.sb_cover.proofs.laws.not_longer_is_as_short.Goals as goal

pub returns : goal.returns
returns c = not_longer_is_as_short
