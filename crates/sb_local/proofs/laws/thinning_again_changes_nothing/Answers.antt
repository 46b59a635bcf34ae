use Rattle.sb_local.proofs.Staying.{nothing_again}
use Rattle.sb_local.proofs.laws.thinning_again_changes_nothing.Goals as goal

pub returns : goal.returns
returns c = nothing_again
