use Rattle.sb_cover.proofs.CompareLemmas.{met_alike}
use Rattle.sb_cover.proofs.comparing.put_cond.Goals as goal

pub returns-clause-tells : goal.returns-clause-tells
returns-clause-tells c = λ a b low_a low_b alike.
    met_alike c.args.asked.now c.mask_for-mask.result a b (c.mask_for-mask.ensures a low_a) (c.mask_for-mask.ensures b low_b) (c.in_ok-put_test.ensures.tells a b alike)
