use Rattle.sb_actor.proofs.Worker.{starts}
use Rattle.sb_actor.proofs.laws.starts_in_rule.Goals as goal

pub returns : goal.returns
returns c = starts
