use Rattle.sb_pool.proofs.seats.PoolSeat.found.Goals as goal
use Rattle.sb_pool.proofs.Steps.{founds, within}

pub push_as-pushed-requires-clause-rule : goal.push_as-pushed-requires-clause-rule
push_as-pushed-requires-clause-rule g c = (
  founds g.W.Numbered.number g.W.Numbered.home _ _ _ _ c.requires.alone.1 c.requires.alone.0 c.requires.number,
  within g.W.Numbered.number g.W.Numbered.home _ _ c.requires.alone.1,
)
