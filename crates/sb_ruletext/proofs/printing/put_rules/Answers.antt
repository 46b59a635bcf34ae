use Rattle.std.proofs.Common.{◌≡◌, ◌++◌, ◌∷◌, [], List, refl, map}
use Rattle.std.proofs.lemmas.Grind.{flat_map-append}
use Rattle.std.proofs.lemmas.List.{append-nil, map-append, take_all}
use Rattle.std.specs.List.{flat_map}
use Rattle.sb_rule.specs.declared.policies.Rule.{Rule}
use Rattle.sb_text.specs.PlainLines.{line_text}
use Rattle.sb_ruletext.specs.Printing.{rule_tokens}
use Rattle.sb_ruletext.specs.Values.{is_rule_of_values}
use Rattle.sb_ruletext.proofs.Appended.{next_taken, part_appended, all_next}
use Rattle.sb_ruletext.proofs.printing.put_rules.Goals as goal

one_more : (rules : List Rule) (rule : Rule)
    → flat_map line_text (map rule_tokens (rules ++ rule ∷ [])) ≡ flat_map line_text (map rule_tokens rules) ++ line_text (rule_tokens rule)
one_more rules rule = rw (map-append, flat_map-append, append-nil) refl

pub loop-rule-preserved : goal.loop-rule-preserved
loop-rule-preserved c =
    let taken = next_taken _ _ _ c.loop-rule-test.true c.rule-item.is in record {
      text = part_appended (λ rules. flat_map line_text (map rule_tokens rules)) c.args.rules.now c.loop-rule.rule-index c.rule-item.result _ _ _ _ taken
          (one_more _ c.rule-item.result) c.loop-rule.invariant.text c.in_ok-put_rule.ensures.text;
      values = all_next is_rule_of_values c.args.rules.now c.loop-rule.rule-index c.rule-item.result taken
          c.loop-rule.invariant.values c.in_ok-put_rule.ensures.values;
    }

pub returns-clause-text : goal.returns-clause-text
returns-clause-text c = rw (take_all c.loop-rule.rule-index c.args.rules.now c.loop-rule-test.false) at c.loop-rule.invariant.text

pub returns-clause-values : goal.returns-clause-values
returns-clause-values c = rw (take_all c.loop-rule.rule-index c.args.rules.now c.loop-rule-test.false) at c.loop-rule.invariant.values
