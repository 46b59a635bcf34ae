use Rattle.sb_cover.proofs.TextLemmas.{texts_are_matched}
use Rattle.sb_cover.proofs.laws.texts_are_matched.Goals as goal

pub returns : goal.returns
returns c = texts_are_matched c.literals_match_the_same.ensures
