use Rattle.std.proofs.Common.{get_or}
use Rattle.sb_cover.proofs.NumberPickLemmas.{numbers_more}
use Rattle.sb_cover.proofs.number_picking.pick_all.Goals as goal

pub loop-number-preserved : goal.loop-number-preserved
loop-number-preserved c =
    numbers_more c.args.conds.now c.args.questions.now c.args.numbers.now c.loop-number.number-index c.loop-number.picked.values.items c.pick.new.picked.values.items
    c.loop-number.picked.labels.keys c.pick.new.picked.labels.keys c.loop-number-test.true c.in_ok-pick.ensures c.loop-number.invariant
