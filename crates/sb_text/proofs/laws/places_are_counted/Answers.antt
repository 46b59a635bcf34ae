use Rattle.sb_text.proofs.Utf8Laws.{counted}
use Rattle.sb_text.proofs.laws.places_are_counted.Goals as goal

pub returns : goal.returns
returns c = counted
