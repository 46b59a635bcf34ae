use Rattle.sb_pool.proofs.Steps.{draws, looks}
use Rattle.sb_pool.proofs.seats.PoolSeat.take.Goals as goal

pub pop_as-requires-clause-rule : goal.pop_as-requires-clause-rule
pop_as-requires-clause-rule g c =
    (draws g.W.Numbered.number g.W.Numbered.home _ _ c.requires.live, looks g.W.Numbered.number g.W.Numbered.home _ _)
