use Rattle.sb_core.proofs.Beginning.{few_results}
use Rattle.sb_core.proofs.runs.establish_few.Goals as goal

pub returns : goal.returns
returns c = few_results c.sound_parts.ensures.targets c.args.script.now c.args.world.now c.establish_kept.ensures c.requires.running
