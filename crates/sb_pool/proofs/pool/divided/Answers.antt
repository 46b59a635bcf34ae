use Rattle.std.proofs.Common.{rules, ◌≡◌, ◌<◌, [], length, set, ◌∷◌, ◌++◌, ◌+◌, refl, sym, subst}
use Rattle.std.specs.Prelude.{vec_capacity}
use Rattle.std.proofs.lemmas.Option.{slice_get_read}
use Rattle.sb_pool.specs.Pools.{seen, AreDivided, ArePlaced}
use Rattle.sb_pool.proofs.Gathering.{count_same, divided_more, live_same}
use Rattle.sb_pool.proofs.Placing.{dealt_first, placed_more, front_seats}
use Rattle.sb_pool.proofs.pool.divided.Goals as goal

pub loop-seat-preserved : goal.loop-seat-preserved
loop-seat-preserved g c =
    let seats = c.loop-seat.seats.items in
    let front = c.index_mut.result.now in
    let made = c.another-next.ensures in
    let some : 0 < length c.loop-seat.seats.items = search rules in
    let at_front = slice_get_read seats (length seats) 0 front refl some c.index_mut.ensures.value in
    let more = divided_more c.args.queue.now.table.shared.table_id (seen c.args.first).homes seats front c.another-next.new.self c.another-next.result
    c.loop-seat.invariant.3 at_front made.own.0.0 made.own.0.1 made.old made.own.1.0 made.own.1.1 made.new made.rooms.0 made.rooms.1 in
    let items : c.push_reserved-in-loop-seat.new.self.items ≡ set c.loop-seat.seats.items 0 c.another-next.new.self ++ c.another-next.result ∷ [] = search rules in
    let count : length c.push_reserved-in-loop-seat.new.self.items ≡ c.loop-seat._seat + 1 = search rules in
    let room : vec_capacity c.push_reserved-in-loop-seat.new.self ≡ vec_capacity c.args.room = search rules in
    let past : 0 < c.loop-seat._seat + 1 = search rules in
    let table = c.args.semaphore.now.table.shared.table_id in
    let works = length (seen c.args.first).homes in
    let test = c.loop-seat-test.true in
    let places = placed_more table works c.args.count seats front c.another-next.new.self c.another-next.result
    c.loop-seat.invariant.4 at_front made.places.0 made.places.1 made.histories.0 made.histories.1 in (
      count,
      past,
      room,
      subst (λ l. AreDivided c.args.queue.now.table.shared.table_id (seen c.args.first).homes l) (sym items) more,
      subst (λ l. ArePlaced table works c.args.count l) (sym items) places,
    )

pub another-next-requires-clause-own : goal.another-next-requires-clause-own
another-next-requires-clause-own g c =
    let seats = c.loop-seat.seats.items in
    let front = c.index_mut.result.now in
    let some : 0 < length c.loop-seat.seats.items = search rules in
    let a = c.loop-seat.invariant.3 0 front (slice_get_read seats (length seats) 0 front refl some c.index_mut.ensures.value) in
    (a.0, a.1)

pub another-next-requires-clause-live : goal.another-next-requires-clause-live
another-next-requires-clause-live g c =
    let seats = c.loop-seat.seats.items in
    let front = c.index_mut.result.now in
    let some : 0 < length c.loop-seat.seats.items = search rules in
    let a = c.loop-seat.invariant.3 0 front (slice_get_read seats (length seats) 0 front refl some c.index_mut.ensures.value) in
    live_same a.2

pub another-next-requires-clause-count : goal.another-next-requires-clause-count
another-next-requires-clause-count g c =
    let seats = c.loop-seat.seats.items in
    let front = c.index_mut.result.now in
    let some : 0 < length c.loop-seat.seats.items = search rules in
    let a = c.loop-seat.invariant.3 0 front (slice_get_read seats (length seats) 0 front refl some c.index_mut.ensures.value) in
    (length seats, count_same a.2)

pub another-next-requires-clause-place : goal.another-next-requires-clause-place
another-next-requires-clause-place g c =
    let seats = c.loop-seat.seats.items in
    let front = c.index_mut.result.now in
    let some : 0 < length c.loop-seat.seats.items = search rules in
    (c.loop-seat.invariant.4 0 front (slice_get_read seats (length seats) 0 front refl some c.index_mut.ensures.value)).0

pub another-next-requires-clause-seats : goal.another-next-requires-clause-seats
another-next-requires-clause-seats g c =
    let seats = c.loop-seat.seats.items in
    let front = c.index_mut.result.now in
    let some : 0 < length c.loop-seat.seats.items = search rules in
    let few : length c.loop-seat.seats.items < c.args.count = search rules in
    front_seats c.args.semaphore.now.table.shared.table_id (length (seen c.args.first).homes) c.args.count seats front c.loop-seat.invariant.4
    (slice_get_read seats (length seats) 0 front refl some c.index_mut.ensures.value) few
