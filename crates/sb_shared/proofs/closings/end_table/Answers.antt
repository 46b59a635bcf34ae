use Rattle.std.proofs.Common.{subst, List}
use Rattle.core.specs.Mem.Slots.{slots_items}
use Rattle.sb_shared.specs.Closing.{Ends}
use Rattle.sb_shared.specs.declared.views.Part.{Part}
use Rattle.sb_shared.specs.declared.views.TakenSeat.{TakenSeat}
use Rattle.sb_shared.proofs.Dividing.{closes}
use Rattle.sb_shared.proofs.closings.end_table.Goals as goal

pub returns : goal.returns
returns c =
    let key = c.args.table.shared.key in
    let closed = c.close_with-closed.result in
    let rows = slots_items closed.words in
    let it = c.into_seat.result in (
      rows,
      c.take_words-words.ensures,
      subst (λ (z : List Part × List TakenSeat). Ends key z.0 z.1 rows c.take-book.result) (λ i. (c.into_seat.ensures.parts i, c.into_seat.ensures.taken i))
          (closes key it.id it.me.0 rows (slots_items closed.slots) c.take-book.result c.take-book.ensures.value c.close_with-closed.ensures.values.2),
    )
