use Rattle.std.proofs.Common.{◌≡◌, ◌∙◌, ◌++◌, ◌∷◌, ◌+◌, [], ap, arith, length, length-append, subst, sym}
use Rattle.sb_cover.specs.Pruning.{is_true, marks_by, marks_in, ArePruned}
use Rattle.sb_cover.proofs.LabelLemmas.{marks_one}
use Rattle.sb_cover.proofs.labels.marks_for.Goals as goal

pub loop-rule-preserved : goal.loop-rule-preserved
loop-rule-preserved c = record {
  count = ap length c.in_ok-push.ensures.items ∙ length-append c.loop-rule.marks.items (c.number_of_mark.result ∷ []) ∙ ap (λ n. n + 1) c.loop-rule.invariant.count;
  pruned = λ more rest.
      subst (λ l. ArePruned c.args.depth [] (marks_by (is_true c.args.truths.now) c.args.rules.now) (marks_in (l ++ more)) c.args.rules.now)
      (sym c.in_ok-push.ensures.items)
      (marks_one c.args.depth c.loop-rule.decided.items c.is_marked.new.decided.items (is_true c.args.truths.now) c.args.rules.now c.loop-rule.rule-index
      c.rule-item.result c.loop-rule.marks.items c.number_of_mark.result c.in_ok-mark.mark more c.loop-rule-test.true c.rule-item.is c.number_of_mark.ensures c.in_ok-mark.ensures
      c.loop-rule.invariant.pruned rest);
}
