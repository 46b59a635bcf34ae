use Rattle.sb_pool.proofs.Steps.{opens}
use Rattle.sb_pool.proofs.pool.begin.Goals as goal

pub ruled-requires-clause-rule : goal.ruled-requires-clause-rule
ruled-requires-clause-rule g c = opens g.W.Numbered.number g.W.Numbered.home
