use Rattle.sb_cover.proofs.CoverLemmas.{answers_decide}
use Rattle.sb_cover.proofs.laws.answers_decide.Goals as goal

pub returns : goal.returns
returns c = answers_decide
