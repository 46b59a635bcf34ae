use Rattle.sb_actor.proofs.GivingUp.{giving_up_is_kept}
use Rattle.sb_actor.proofs.laws.clean_channels_are_kept.Goals as goal

pub returns : goal.returns
returns c = giving_up_is_kept
