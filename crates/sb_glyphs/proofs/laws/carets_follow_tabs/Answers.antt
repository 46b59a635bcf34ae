use Rattle.sb_glyphs.proofs.CaretLaws.{carets_follow}
use Rattle.sb_glyphs.proofs.laws.carets_follow_tabs.Goals as goal

pub returns : goal.returns
returns c = carets_follow
