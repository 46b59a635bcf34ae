use Rattle.sb_glyphs.proofs.CaretLaws.{excerpts_placed}
use Rattle.sb_glyphs.proofs.laws.excerpts_have_their_place.Goals as goal

pub returns : goal.returns
returns c = excerpts_placed
