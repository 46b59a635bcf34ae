use Rattle.std.proofs.Common.{◌≡◌, ◌∙◌, [], ◌∷◌, ap, length, arith}
use Rattle.std.proofs.lemmas.List.{length-map}
use Rattle.std.specs.Vec.Iter.{into_iter_items}
use Rattle.sb_shared.specs.Closing.{IsThreadSeat, part_of_thread, taken_of, taken_thread}
use Rattle.sb_shared.specs.Seats.{ThreadSeatValue}
use Rattle.sb_shared.proofs.Ranges.{map_more, map_more_after, next_holds, next_more}
use Rattle.sb_shared.proofs.closings.join_threads.Goals as goal

pub join-requires : goal.join-requires
join-requires c =
    let is = (next_holds (IsThreadSeat (record { table = c.args.words.now.table_id; key = c.args.words.now.key })) c.args.seats.items c.loop-seat.yielded (into_iter_items c.loop-seat.seat-iterator) (into_iter_items c.next.new.self) c.in-Some.seat c.requires.seats
    c.loop-seat.invariant.6 c.in-Some.ensures.steps.0).0 in
    let seat = c.into_parts-seat.ensures in
    record {
      own = (c.loop-seat.invariant.0 ∙ c.requires.own.0, c.requires.own.1);
      key = c.loop-seat.invariant.1 ∙ c.requires.key;
      seat = (seat.table ∙ is.table, seat.key ∙ is.key, seat.out);
    }

pub push_reserved-requires : goal.push_reserved-requires
push_reserved-requires c =
    let below = (next_holds (IsThreadSeat (record { table = c.args.words.now.table_id; key = c.args.words.now.key })) c.args.seats.items c.loop-seat.yielded (into_iter_items c.loop-seat.seat-iterator) (into_iter_items c.next.new.self) c.in-Some.seat c.requires.seats
    c.loop-seat.invariant.6 c.in-Some.ensures.steps.0).1 in
    let size : length c.loop-seat.results.items ≡ length c.loop-seat.yielded = ap (λ l. length l) c.loop-seat.invariant.4 ∙ length-map c.loop-seat.yielded (λ (s : ThreadSeatValue). s.run.results) in
    let room = c.loop-seat.invariant.5 in
    omega (arith, below, size, room, c.loop-seat.results.ok.0)

pub loop-seat-preserved : goal.loop-seat-preserved
loop-seat-preserved c =
    let inv = c.loop-seat.invariant in
    let joined = c.join.ensures.joined in
    let same = c.push_reserved.ensures.capacity in
    let room = inv.5 in (
      ap (λ k. k.table) joined ∙ inv.0,
      ap (λ k. k.key) joined ∙ inv.1,
      map_more_after part_of_thread c.args.keeper.now.parts c.loop-seat.keeper.parts c.join.new.self.parts c.into_parts-seat.result.0.me.0.parts c.loop-seat.yielded c.in-Some.seat inv.2 (ap (λ k. k.parts) joined)
          c.into_parts-seat.ensures.parts,
      map_more_after taken_thread c.args.keeper.now.taken c.loop-seat.keeper.taken c.join.new.self.taken (taken_of c.into_parts-seat.result.0.me.0 ∷ []) c.loop-seat.yielded c.in-Some.seat inv.3
          (ap (λ k. k.taken) joined) (λ i. record { parts = c.into_parts-seat.ensures.parts i; history = c.into_parts-seat.ensures.history i } ∷ []),
      map_more (λ (s : ThreadSeatValue). s.run.results) c.loop-seat.results.items c.push_reserved.new.self.items c.loop-seat.yielded c.in-Some.seat _ inv.4 c.push_reserved.ensures.items (c.new.ensures ∙ c.into_parts-seat.ensures.results),
      omega (arith, room, same),
      next_more c.args.seats.items c.loop-seat.yielded (into_iter_items c.loop-seat.seat-iterator) (into_iter_items c.next.new.self) c.in-Some.seat inv.6 c.in-Some.ensures.steps.0,
    )
