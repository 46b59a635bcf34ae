use Rattle.sb_glyphs.proofs.CleanLaws.{shown_texts_clean}
use Rattle.sb_glyphs.proofs.laws.shown_texts_are_clean.Goals as goal

pub returns : goal.returns
returns c = shown_texts_clean
