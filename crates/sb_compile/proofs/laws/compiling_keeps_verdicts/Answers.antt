use Rattle.sb_compile.proofs.Verdicts.{compiling_keeps_verdicts}
use Rattle.sb_compile.proofs.laws.compiling_keeps_verdicts.Goals as goal

pub returns : goal.returns
returns c = compiling_keeps_verdicts c.fitting_args.ensures.kinds c.tags_and_numbers.ensures.tags
