use Rattle.sb_compile.proofs.Candidates.{candidates_have_each}
use Rattle.sb_compile.proofs.laws.candidates_have_each_that_holds.Goals as goal

pub returns : goal.returns
returns c = candidates_have_each c.fitting_args.ensures.kinds c.tags_and_numbers.ensures.tags
