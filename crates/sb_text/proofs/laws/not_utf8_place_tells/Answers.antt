use Rattle.sb_text.proofs.Utf8Laws.{tells}
use Rattle.sb_text.proofs.laws.not_utf8_place_tells.Goals as goal

pub returns : goal.returns
returns c = tells
