use Rattle.std.proofs.Common.{◌≡◌, ◌∙◌, ◌∷◌, ◌+◌, ap, drop, subst, sym}
use Rattle.sb_cover.specs.Pruning.{IsCovered}
use Rattle.sb_cover.proofs.NeedLemmas.{left_from}
use Rattle.sb_cover.proofs.pruning.is_covered.Goals as goal

pub loop-conds-preserved : goal.loop-conds-preserved
loop-conds-preserved c = λ rest.
    c.loop-conds.invariant
    (subst (λ l. IsCovered c.loop-conds.left l c.args.later.now) (sym (left_from c.args.decided.now c.loop-conds.conds-index c.conds-item.result c.loop-conds-test.true c.conds-item.is))
    (subst (λ l. IsCovered c.loop-conds.left (l ∷ drop (c.loop-conds.conds-index + 1) c.args.decided.now) c.args.later.now) c.deref.ensures
    (c.left_after-left.ensures (drop (c.loop-conds.conds-index + 1) c.args.decided.now) rest)))
