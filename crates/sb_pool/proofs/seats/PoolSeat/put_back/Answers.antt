use Rattle.sb_pool.proofs.Steps.{returns, within}
use Rattle.sb_pool.proofs.seats.PoolSeat.put_back.Goals as goal

pub push_as-pushed-requires-clause-rule : goal.push_as-pushed-requires-clause-rule
push_as-pushed-requires-clause-rule g c = (
  returns g.W.Numbered.number g.W.Numbered.home _ _ _ _ c.requires.live c.requires.out c.requires.home,
  within g.W.Numbered.number g.W.Numbered.home _ _ c.requires.live,
)
