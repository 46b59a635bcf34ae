use Rattle.sb_text.proofs.LineLaws.{other_ends}
use Rattle.sb_text.proofs.laws.other_ends_are_kept.Goals as goal

pub returns : goal.returns
returns c = other_ends
