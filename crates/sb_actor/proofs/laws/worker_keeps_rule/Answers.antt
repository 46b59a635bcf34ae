use Rattle.sb_actor.proofs.Worker.{worker_keeps}
use Rattle.sb_actor.proofs.laws.worker_keeps_rule.Goals as goal

pub returns : goal.returns
returns c = worker_keeps
