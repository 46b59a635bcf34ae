use Rattle.sb_glyphs.proofs.CaretLaws.{carets_under}
use Rattle.sb_glyphs.proofs.laws.carets_are_under_their_place.Goals as goal

pub returns : goal.returns
returns c = carets_under
