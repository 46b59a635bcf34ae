use Rattle.std.proofs.Common.{length}
use Rattle.sb_tables.proofs.Dealing.{last_read}
use Rattle.sb_tables.proofs.pools.draws.Goals as goal

pub told_draws-requires : goal.told_draws-requires
told_draws-requires g c =
    (c.in-Ok.ensures.seats (length c.pop.new.self.items) c.in-Some.seat (last_read c.in-Ok.seats.items c.pop.new.self.items c.pop.result c.in-Some.seat c.pop.ensures.items c.in-Some.is)).0
