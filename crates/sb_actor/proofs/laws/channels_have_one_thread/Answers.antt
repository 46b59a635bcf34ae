use Rattle.sb_actor.proofs.Holders.{channels_have_one}
use Rattle.sb_actor.proofs.laws.channels_have_one_thread.Goals as goal

pub returns : goal.returns
returns c = channels_have_one
