use Rattle.sb_statements.proofs.PlacedLemmas.{placed_sound}
use Rattle.sb_statements.proofs.laws.placed_statements_are_sound.Goals as goal

pub returns : goal.returns
returns c = placed_sound
