use Rattle.sb_cover.proofs.PruneLemmas.{pruned_decide_alike}
use Rattle.sb_cover.proofs.laws.pruned_decide_alike.Goals as goal

pub returns : goal.returns
returns c = pruned_decide_alike
