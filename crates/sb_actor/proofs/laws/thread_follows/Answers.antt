use Rattle.sb_actor.proofs.ThreadTies.{thread_follows}
use Rattle.sb_actor.proofs.laws.thread_follows.Goals as goal

pub returns : goal.returns
returns c = thread_follows
