use Rattle.std.proofs.Common.{map, subst}
use Rattle.sb_pool.specs.Pools.{AreSeats}
use Rattle.sb_run.specs.Works.{home_of}
use Rattle.sb_run.proofs.openings.open_pool.Goals as goal

pub returns-clause-seats : goal.returns-clause-seats
returns-clause-seats g c = subst (λ zs. AreSeats c.in-Ok.pool (map home_of c.args.works.items) zs) c.in-Some.ensures.items c.in-Ok.ensures.seats
