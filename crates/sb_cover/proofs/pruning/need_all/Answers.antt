use Rattle.std.proofs.Common.{◌≡◌}
use Rattle.sb_cover.proofs.NeedLemmas.{needed_one}
use Rattle.sb_cover.proofs.pruning.need_all.Goals as goal

pub loop-cond-preserved : goal.loop-cond-preserved
loop-cond-preserved c = record {
  stay = λ n h. c.need.ensures.stay n (c.loop-cond.invariant.stay n h);
  here = needed_one c.loop-cond.needed.items c.need.new.needed.items c.args.conds.now c.loop-cond.cond-index c.loop-cond-test.true c.need.ensures.stay c.loop-cond.invariant.here c.need.ensures.here;
}
