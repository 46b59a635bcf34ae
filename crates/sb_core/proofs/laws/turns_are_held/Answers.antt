use Rattle.sb_core.proofs.Judging.{turns_are_held}
use Rattle.sb_core.proofs.laws.turns_are_held.Goals as goal

pub returns : goal.returns
returns c = turns_are_held
