use Rattle.std.proofs.Common.{◌∙◌, ◌+◌, ◌*◌, ◌/◌, ◌%◌, ap, length, length-append, [], ◌∷◌, arith, slice_index}
use Rattle.core.specs.Mem.Slots.{slots_items}
use Rattle.sb_shared.specs.Rule.{spot}
use Rattle.sb_shared.proofs.Ranges.{range_more, read_at}
use Rattle.sb_shared.proofs.rooms.WordRoom.fill.Goals as goal

pub loop-place-preserved : goal.loop-place-preserved
loop-place-preserved c =
    let rows = slots_items c.args.closed.now.words in
    let t = c.args.target in
    let n = c.loop-place.place in
    let inv = c.loop-place.invariant in
    let grown = c.push_reserved.ensures.items in
    let same = c.push_reserved.ensures.capacity in
    let size = inv.1 in
    let room = inv.2 in
    let many = ap (λ l. length l) grown ∙ length-append c.loop-place.words.items (c.word.result ∷ []) in (
      range_more (λ i. slice_index rows (spot t (i / 65) (i % 65))) n c.loop-place.words.items c.push_reserved.new.self.items c.word.result inv.0
          (read_at rows (t * 640 + n / 65 * 80 + n % 65) c.word.result c.word.ensures) grown,
      omega (arith, many, size),
      omega (arith, room, same),
    )
