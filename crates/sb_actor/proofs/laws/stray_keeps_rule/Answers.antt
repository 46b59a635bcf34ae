use Rattle.sb_actor.proofs.Strays.{stray_keeps}
use Rattle.sb_actor.proofs.laws.stray_keeps_rule.Goals as goal

pub returns : goal.returns
returns c = stray_keeps
