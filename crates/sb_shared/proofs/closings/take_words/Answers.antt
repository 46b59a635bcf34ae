use Rattle.std.proofs.Common.{◌≡◌, ◌∙◌, [], ◌∷◌, ap, length, length-append, arith}
use Rattle.std.specs.Vec.Iter.{into_iter_items}
use Rattle.core.specs.Mem.Slots.{slots_items}
use Rattle.sb_shared.proofs.Ranges.{all_words_more, next_more}
use Rattle.sb_shared.proofs.closings.take_words.Goals as goal

pub loop-room-preserved : goal.loop-room-preserved
loop-room-preserved c =
    let rows = slots_items c.args.closed.now.words in
    let inv = c.loop-room.invariant in
    let size = inv.1 in
    let room = inv.2 in
    let same = c.push_reserved.ensures.capacity in
    let more = ap (λ l. length l) c.push_reserved.ensures.items ∙ length-append c.loop-room.words.items (c.fill.result ∷ []) in
    let longer = length-append c.loop-room.yielded (c.in-Some.room ∷ []) in
    let at : c.len-target.result ≡ length c.loop-room.yielded = omega (arith, c.len-target.ensures, c.loop-room.words.ok.0, size) in (
      all_words_more rows 0 c.loop-room.yielded c.in-Some.room c.len-target.result c.loop-room.words.items c.push_reserved.new.self.items c.fill.result inv.0 c.push_reserved.ensures.items c.fill.ensures
          (omega (arith, at)),
      omega (arith, size, more, longer),
      omega (arith, room, same),
      next_more c.args.rooms.items c.loop-room.yielded (into_iter_items c.loop-room.room-iterator) (into_iter_items c.next.new.self) c.in-Some.room inv.3 c.in-Some.ensures.steps.0,
    )
