use Rattle.std.proofs.Common.{refl}
use Rattle.crossbeam_queue.specs.Passes.{view}
use Rattle.sb_pool.proofs.Gathering.{all_out}
use Rattle.sb_pool.proofs.Steps.{looks}
use Rattle.sb_pool.proofs.seats.PoolSeat.establish_all_out.Goals as goal

pub learn_as-requires-clause-rule : goal.learn_as-requires-clause-rule
learn_as-requires-clause-rule g c = looks g.W.Numbered.number g.W.Numbered.home _ _

pub returns : goal.returns
returns g c =
    let v = view c.args.self.now.pass in
    let learned = c.learn_as.ensures.rule in
    record { place = refl; all = all_out g.W.Numbered.number g.W.Numbered.home v.homes v learned.0 learned.1 c.requires.last.0 c.requires.last.1 c.requires.all }
