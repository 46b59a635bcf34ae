use Rattle.sb_core.proofs.RunLaws.{runs_are_legal}
use Rattle.sb_core.proofs.laws.runs_are_legal.Goals as goal

pub returns : goal.returns
returns c = runs_are_legal c.sound_parts.ensures.targets c.sound_parts.ensures.statements c.answers_keep_histories.ensures
