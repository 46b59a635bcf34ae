use Rattle.std.proofs.Common.{◌∙◌, sym}
use Rattle.sb_cover.proofs.CompareLemmas.{met_more, met_all, fewer_alike}
use Rattle.sb_cover.proofs.comparing.comparisons_for.Goals as goal

pub loop-number-preserved : goal.loop-number-preserved
loop-number-preserved c = λ a b low_a low_b alike.
    met_more c.args.conds.now c.args.needed.now c.loop-number.number c.index-conds-number.result a b c.loop-number-test.true c.index-conds-number.is
    (c.loop-number.invariant a b low_a low_b (fewer_alike c.loop-number.comparisons.items c.put_needed.new.comparisons.items a b c.in_ok-put_needed.ensures.more alike))
    (λ need. c.in_ok-put_needed.ensures.tells a b low_a low_b (c.is_needed.ensures ∙ need) alike)

pub returns : goal.returns
returns c = λ a b low_a low_b alike.
    met_all c.args.conds.now c.args.needed.now c.loop-number.number a b c.loop-number-test.false (c.loop-number.invariant a b low_a low_b alike)
