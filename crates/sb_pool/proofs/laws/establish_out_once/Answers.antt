use Rattle.sb_pool.proofs.Apart.{out_once}
use Rattle.sb_pool.proofs.laws.establish_out_once.Goals as goal

pub returns : goal.returns
returns g c = out_once g.W.Numbered.number g.W.Numbered.home
