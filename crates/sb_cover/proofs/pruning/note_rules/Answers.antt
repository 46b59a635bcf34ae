use Rattle.sb_cover.proofs.NeedLemmas.{agree_before, pruned_one}
use Rattle.sb_cover.proofs.pruning.note_rules.Goals as goal

pub loop-rule-preserved : goal.loop-rule-preserved
loop-rule-preserved c = record {
  stay = λ n h. c.in_ok-note_rule.ensures.stay n (c.loop-rule.invariant.stay n h);
  pruned = λ f g sure agree rest. c.loop-rule.invariant.pruned f g sure
      (agree_before c.loop-rule.needed.items c.note_rule.new.needed.items f g c.in_ok-note_rule.ensures.stay agree)
      (pruned_one c.args.depth c.loop-rule.decided.items c.note_rule.new.decided.items f g c.args.rules.now c.loop-rule.rule-index c.rule-item.result
      c.loop-rule-test.true c.rule-item.is (λ a b more. c.in_ok-note_rule.ensures.pruned f g a b more sure agree) rest);
}
