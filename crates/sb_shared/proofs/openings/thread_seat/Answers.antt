use Rattle.std.proofs.Common.{◌≡◌, ◌∙◌, [], false, ap, sym, map, length, arith}
use Rattle.sb_statements.specs.declared.schedules.Actor.TheVariants.{Thread}
use Rattle.sb_shared.specs.Origins.{start_of}
use Rattle.sb_shared.specs.Parts.{part_of}
use Rattle.sb_shared.specs.Seats.{KeeperValue, thread_seat}
use Rattle.sb_shared.proofs.Fresh.{fresh_seat, seat_of, seat_with}
use Rattle.sb_shared.proofs.openings.thread_seat.Goals as goal

pub split-seat-requires-clause-first : goal.split-seat-requires-clause-first
split-seat-requires-clause-first c =
    let start = start_of c.args.words.now.key in
    let first = c.requires.first in
    (part_of start (Thread c.args.target c.args.thread), map (part_of start) first.0, ap (λ k. k.parts) first.1)

pub invariant_of-result : goal.invariant_of-result
invariant_of-result c =
    let key = c.args.words.now.key in
    let script = c.args.script.now in
    let t = c.args.target in
    let k = c.args.thread in
    let me = c.split-seat.result.me in
    let is : me ≡ seat_of key (Thread t k) = c.split-seat.ensures.seat.1 ∙ ap (λ (s : KeeperValue). (seat_with s, [])) c.requires.first.1 in
    let seat = fresh_seat key script c.requires.opened t k c.requires.there me is in
    let room = c.in_ok-results.ensures.capacity in
    let count = c.statement_count.ensures in
    let size = ap (λ l. length l) seat.3 in (
      seat.0,
      seat.1,
      c.with_table.ensures ∙ sym (ap (λ x. x.thread) seat.2),
      c.in_ok-results.ensures.items ∙ sym (ap (λ x. x.results) seat.2),
      omega (arith, room, count, size),
    )

pub returns-clause-seat : goal.returns-clause-seat
returns-clause-seat c =
    let first = c.requires.first.1 in
    let is : c.split-seat.result.me ≡ seat_of c.args.words.now.key (Thread c.args.target c.args.thread) = c.split-seat.ensures.seat.1 ∙ ap (λ (s : KeeperValue). (seat_with s, [])) first in
    λ i. thread_seat ((c.split-seat.ensures.seat.0 ∙ ap (λ (s : KeeperValue). s.table) first) i) (is i).0 false
