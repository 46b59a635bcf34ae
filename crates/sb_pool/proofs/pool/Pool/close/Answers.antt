use Rattle.std.proofs.Common.{rules, ◌≡◌, ◌≤◌, map, sym, ap, ◌∙◌, subst, arith}
use Rattle.atomic_table.specs.declared.shared.Seat.{Seat}
use Rattle.sb_pool.specs.declared.events.SeatHistory.{SeatHistory}
use Rattle.sb_pool.specs.Pools.{seen, history_of, AreNumbered}
use Rattle.sb_pool.proofs.Closing.{last_covers}
use Rattle.sb_pool.proofs.Filling.{in_order_homes, in_order_numbers}
use Rattle.sb_pool.proofs.pool.Pool.close.Goals as goal

pub returns-clause-numbered : goal.returns-clause-numbered
returns-clause-numbered g c =
    subst (λ works. AreNumbered g.W.Numbered.number works) (sym c.into_works.ensures)
    (in_order_numbers g.W.Numbered.number g.W.Numbered.home c.gather-rooms.result (seen c.args.seat).homes c.gather-rooms.ensures.home)

pub returns-clause-homes : goal.returns-clause-homes
returns-clause-homes g c =
    ap (map g.W.Numbered.home) c.into_works.ensures
    ∙ in_order_homes g.W.Numbered.number g.W.Numbered.home c.gather-rooms.result (seen c.args.seat).homes c.gather-rooms.ensures.home

-- the seat has taken in all others
pub close-requires-clause-all : goal.close-requires-clause-all
close-requires-clause-all g c =
    let counted = c.requires.own.5 in
    let last = c.requires.last in
    let many = counted.count last.0 last.1 in
    let seats = counted.seats in
    let covered = last_covers (seen c.args.seat) last in
    let same : c.into_place.result ≡ c.args.seat.place = search rules in
    let key : c.args.self.seats ≡ c.self.inside.semaphore.table.shared.key.seats = search rules in
    let place : (history_of c.args.seat).seats ≡ c.into_place.result.me.0.seats = ap (λ (p : Seat (Unit {0}) SeatHistory). p.me.0.seats) (sym same) in
    omega (arith, many, seats, covered, key, place)
