use Rattle.sb_top.proofs.EndLaws.{work_comes_to_its_end}
use Rattle.sb_top.proofs.laws.work_comes_to_its_end.Goals as goal

pub returns : goal.returns
returns g c = work_comes_to_its_end _ _
