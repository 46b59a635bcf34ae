use Rattle.sb_actor.proofs.Caused.{results_have_causes}
use Rattle.sb_actor.proofs.laws.results_have_causes.Goals as goal

pub returns : goal.returns
returns c = results_have_causes c.sound_parts.ensures.targets c.sound_parts.ensures.statements
