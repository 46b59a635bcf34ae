use Rattle.sb_cover.proofs.NameLemmas.{names_are_accepted}
use Rattle.sb_cover.proofs.laws.names_are_accepted.Goals as goal

pub returns : goal.returns
returns c = names_are_accepted
