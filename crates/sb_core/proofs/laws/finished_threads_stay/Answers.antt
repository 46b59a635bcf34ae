use Rattle.sb_core.proofs.Judging.{finished_threads_stay}
use Rattle.sb_core.proofs.laws.finished_threads_stay.Goals as goal

pub returns : goal.returns
returns c = finished_threads_stay
