use Rattle.sb_actor.proofs.Ties.{worker_follows}
use Rattle.sb_actor.proofs.laws.worker_follows.Goals as goal

pub returns : goal.returns
returns c = worker_follows
