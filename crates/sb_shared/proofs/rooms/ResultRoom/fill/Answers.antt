use Rattle.std.proofs.Common.{◌≡◌, ◌∙◌, ◌++◌, ap, sym, append-nil, None, [], arith, vec_capacity, option_to_list}
use Rattle.std.specs.Vec.Iter.{into_iter_items, into_iter_len}
use Rattle.sb_shared.proofs.Ranges.{length_next, none_next, taken_more}
use Rattle.sb_shared.proofs.rooms.ResultRoom.fill.Goals as goal
use Rattle.sb_shared.proofs.rooms.ResultRoom.fill.Goals.{in-Some, in_default}

pub loop-thread-preserved : goal.loop-thread-preserved
loop-thread-preserved c =
    let s = into_iter_items c.args.next.now in
    let n = c.loop-thread._thread in
    let inv = c.loop-thread.invariant in
    let grown : (c.match-next.results.items ≡ c.loop-thread.results.items ++ option_to_list c.next.result) × (vec_capacity c.match-next.results ≡ vec_capacity c.loop-thread.results) =
    elim c.match-next.branch [
      | in-Some w ↦ (
        ap (λ v. v.items) w.results-is ∙ w.push_reserved.ensures.items ∙ ap (λ o. c.loop-thread.results.items ++ option_to_list o) (sym w.in-Some.is),
        ap (λ v. vec_capacity v) w.results-is ∙ w.push_reserved.ensures.capacity,
      )
      | in_default w ↦ (
        ap (λ v. v.items) w.results-is ∙ sym (append-nil c.loop-thread.results.items) ∙ ap (λ o. c.loop-thread.results.items ++ option_to_list o) (sym w.in_default.is),
        ap (λ v. vec_capacity v) w.results-is,
      )
    ] in
    let none : c.next.result ≡ None → into_iter_items c.loop-thread.next ≡ [] = λ e. none_next (into_iter_items c.loop-thread.next) c.next.result (into_iter_len c.loop-thread.next) inv.4 c.next.ensures.variant e in
    let more = taken_more s n c.loop-thread.results.items c.match-next.results.items (into_iter_items c.loop-thread.next) (into_iter_items c.next.new.self) c.next.result
    inv.0 inv.1 c.next.ensures.items none grown.0 inv.2 in
    let room = inv.3 in
    let same = grown.1 in (
      more.0,
      more.1,
      more.2,
      omega (arith, room, same),
      length_next (into_iter_items c.loop-thread.next) c.next.result (into_iter_items c.next.new.self) (into_iter_len c.loop-thread.next) (into_iter_len c.next.new.self) c.next.ensures.items inv.4 c.next.ensures.len,
    )
