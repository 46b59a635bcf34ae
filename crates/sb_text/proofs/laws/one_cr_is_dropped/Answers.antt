use Rattle.sb_text.proofs.LineLaws.{one_cr}
use Rattle.sb_text.proofs.laws.one_cr_is_dropped.Goals as goal

pub returns : goal.returns
returns c = one_cr
