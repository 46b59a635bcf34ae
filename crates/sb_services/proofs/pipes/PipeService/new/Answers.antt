use Rattle.sb_services.proofs.PipeServiceLemmas.{kept_none}
use Rattle.sb_services.proofs.pipes.PipeService.new.Goals as goal

-- src/pipes.rt:128:5
pub invariant_of-result : goal.invariant_of-result
invariant_of-result c = kept_none c.new-2.result.items c.new.result c.new-2.ensures.items c.new.ensures
