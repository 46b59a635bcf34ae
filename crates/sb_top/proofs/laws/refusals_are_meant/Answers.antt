use Rattle.sb_top.proofs.EndLaws.{refusals_are_meant}
use Rattle.sb_top.proofs.laws.refusals_are_meant.Goals as goal

pub returns : goal.returns
returns g c = refusals_are_meant _ _
