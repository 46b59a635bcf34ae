use Rattle.sb_kernel.proofs.Placing.{openings_make_few}
use Rattle.sb_kernel.proofs.laws.openings_make_few.Goals as goal

pub returns : goal.returns
returns c = openings_make_few
