use Rattle.std.proofs.Common.{ap, ◌∙◌, arith}
use Rattle.sb_shared.proofs.Dividing.{joins}
use Rattle.sb_shared.proofs.keepers.Keeper.join.Goals as goal

pub join_seat-requires : goal.join_seat-requires
join_seat-requires c =
    let shared = c.args.words.now in
    let me = c.self.inside.seat.me in
    let it = c.args.seat in (
      ap (λ z. z.table) c.self.view_is ∙ c.requires.own.0,
      c.requires.seat.0,
      c.requires.seat.2,
      omega (arith, c.requires.own.1),
      joins shared.key c.self.inside.seat.id me.0 it.id it.me.0 (ap (λ z. z.key) c.self.view_is ∙ c.requires.key),
    )
