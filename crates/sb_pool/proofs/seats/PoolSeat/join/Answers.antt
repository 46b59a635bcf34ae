use Rattle.sb_pool.proofs.Steps.{merges}
use Rattle.sb_pool.proofs.seats.PoolSeat.join.Goals as goal

pub absorb-requires-clause-rule : goal.absorb-requires-clause-rule
absorb-requires-clause-rule g c =
    merges g.W.Numbered.number g.W.Numbered.home _ _ _ _ c.requires.own.2 c.requires.other.2 c.requires.none
