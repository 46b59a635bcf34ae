use Rattle.std.proofs.Common.{◌∙◌, ◌∷◌, ◌+◌, [], ap, length-append, length, sym}
use Rattle.sb_cover.specs.Pruning.{is_true}
use Rattle.sb_cover.proofs.NumberPickLemmas.{truth_more}
use Rattle.sb_cover.proofs.number_picking.truths_of.Goals as goal

pub loop-place-preserved : goal.loop-place-preserved
loop-place-preserved c =
    let old = c.loop-place.truths.items in
    let truth = c.truth_of.result in
    record {
      many = ap length c.in_ok-push.ensures.items ∙ length-append old (truth ∷ []) ∙ ap (λ n. n + 1) c.loop-place.invariant.many;
      met = λ n less need.
          truth_more c.args.conds.now c.args.needed.now old c.args.number c.loop-place.place c.index-conds-place.result c.is_needed.result truth c.loop-place-test.true c.index-conds-place.is
          c.loop-place.invariant.many c.is_needed.ensures c.truth_of.ensures c.loop-place.invariant.met n less need
          ∙ ap (λ l. is_true l n) (sym c.in_ok-push.ensures.items);
    }
