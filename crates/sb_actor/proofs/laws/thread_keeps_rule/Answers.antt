use Rattle.sb_actor.proofs.Thread.{thread_keeps}
use Rattle.sb_actor.proofs.laws.thread_keeps_rule.Goals as goal

pub returns : goal.returns
returns c = thread_keeps
