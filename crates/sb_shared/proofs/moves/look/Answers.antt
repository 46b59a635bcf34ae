use Rattle.std.proofs.Common.{arith}
use Rattle.sb_shared.proofs.StopSteps.{look_allowed}
use Rattle.sb_shared.proofs.moves.look.Goals as goal

pub load-requires : goal.load-requires
load-requires c =
    let words = c.args.words.now in
    let seat = c.args.seat.now in
    let count = c.requires.own.1 in
    (c.requires.own.0, omega (arith, count), look_allowed words.key words.table_id.slots seat.id seat.me)
