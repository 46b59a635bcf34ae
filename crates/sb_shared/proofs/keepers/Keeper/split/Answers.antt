use Rattle.std.proofs.Common.{ap, ◌∙◌, arith}
use Rattle.sb_shared.proofs.Dividing.{splits}
use Rattle.sb_shared.proofs.keepers.Keeper.split.Goals as goal

pub split_seat-requires : goal.split_seat-requires
split_seat-requires c =
    let shared = c.args.words.now in
    let me = c.self.inside.seat.me in
    let first = c.requires.first in (
      ap (λ z. z.table) c.self.view_is ∙ c.requires.own.0,
      omega (arith, c.requires.own.1),
      splits shared.key c.self.inside.seat.id me.0 first.0 first.1 (ap (λ z. z.parts) c.self.view_is ∙ first.2),
    )
