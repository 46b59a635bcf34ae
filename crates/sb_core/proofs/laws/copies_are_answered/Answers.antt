use Rattle.sb_core.proofs.Judging.{copies_are_answered}
use Rattle.sb_core.proofs.laws.copies_are_answered.Goals as goal

pub returns : goal.returns
returns c = copies_are_answered
