use Rattle.std.proofs.Common.{map, ap}
use Rattle.sb_tables.specs.declared.pools.Work.{Work}
use Rattle.sb_tables.proofs.Dealing.{in_turn}
use Rattle.sb_tables.proofs.pools.closed.Goals as goal

pub deal_all-requires-after_bounds : goal.deal_all-requires-after_bounds
deal_all-requires-after_bounds g c = λ lfts bound n s e. let one = c.in-Ok.ensures.seats n s e in (one.0, ap (λ v. v.out) one.1)

pub joined-seat-requires : goal.joined-seat-requires
joined-seat-requires g c =
    in_turn c.in-Ok.pool (map (λ (w : Work). w.home) c.in_ok-works.works.items) c.in-Ok.seats.items c.in_ok-all.all.items c.pop.new.self.items c.pop.result c.in-Some.last
    c.in-Ok.ensures.seats c.in_ok-all.ensures c.pop.ensures.items c.in-Some.is
