use Rattle.sb_pool.proofs.seats.PoolSeat.another.Goals as goal
use Rattle.sb_pool.proofs.Steps.{splits}

pub another-requires-clause-rule : goal.another-requires-clause-rule
another-requires-clause-rule g c =
    splits g.W.Numbered.number g.W.Numbered.home _ _ c.requires.live c.requires.count.0 c.requires.count.1
