use Rattle.std.proofs.Common.{arith}
use Rattle.sb_shared.proofs.StopSteps.{end_allowed, fail_allowed}
use Rattle.sb_shared.proofs.moves.set_stop.Goals as goal

pub compare_exchange-requires : goal.compare_exchange-requires
compare_exchange-requires c =
    let words = c.args.words.now in
    let seat = c.args.seat.now in
    let count = c.requires.own.1 in
    (c.requires.own.0, omega (arith, count), end_allowed words.key words.table_id.slots seat.id seat.me)

pub store-requires : goal.store-requires
store-requires c =
    let words = c.args.words.now in
    let seat = c.args.seat.now in
    let count = c.requires.own.1 in
    (c.requires.own.0, omega (arith, count), fail_allowed words.key words.table_id.slots seat.id seat.me)
