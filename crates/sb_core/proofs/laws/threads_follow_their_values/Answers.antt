use Rattle.sb_core.proofs.Telling.{threads_follow}
use Rattle.sb_core.proofs.laws.threads_follow_their_values.Goals as goal

pub returns : goal.returns
returns c = threads_follow c.results_have_steps.ensures.values c.sound_parts.ensures.statements
