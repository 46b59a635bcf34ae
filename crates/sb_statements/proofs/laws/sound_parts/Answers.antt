use Rattle.sb_statements.proofs.SoundLemmas.{sound_targets, sound_statements}
use Rattle.sb_statements.proofs.laws.sound_parts.Goals as goal

pub returns : goal.returns
returns c = record { targets = sound_targets; statements = sound_statements }
