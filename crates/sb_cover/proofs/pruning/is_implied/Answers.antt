use Rattle.std.proofs.Common.{◌∙◌, sym}
use Rattle.sb_cover.proofs.NeedLemmas.{implied_one}
use Rattle.sb_cover.proofs.pruning.is_implied.Goals as goal

pub loop-number-preserved : goal.loop-number-preserved
loop-number-preserved c =
    implied_one c.args.few.now c.args.many.now c.loop-number.number-index c.loop-number-test.true c.loop-number.invariant (sym c.is_among.ensures ∙ c.if-not-is_among.false)
