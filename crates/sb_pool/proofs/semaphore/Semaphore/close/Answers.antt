use Rattle.sb_pool.proofs.Closing.{final_closes}
use Rattle.sb_pool.proofs.semaphore.Semaphore.close.Goals as goal

pub returns : goal.returns
returns c = final_closes _ _ _ _ _ _ c.close_with.ensures.values.2 c.requires.all c.requires.none
