use Rattle.sb_cover.proofs.ResidualLemmas.{parted_one}
use Rattle.sb_cover.proofs.residuals.split.Goals as goal

pub loop-number-preserved : goal.loop-number-preserved
loop-number-preserved c =
    parted_one c.args.conds.now c.args.param c.args.numbers.now c.loop-number.here c.loop-number.later c.put_by.new.here c.put_by.new.later c.loop-number.number-index c.is_here.result
    c.loop-number-test.true c.is_here.ensures c.in_ok-put_by.ensures.here c.in_ok-put_by.ensures.later c.loop-number.invariant
