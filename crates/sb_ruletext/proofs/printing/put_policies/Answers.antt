use Rattle.std.proofs.Common.{◌≡◌, ◌∙◌, ◌++◌, ◌∷◌, [], List, refl, ap}
use Rattle.std.proofs.lemmas.Grind.{flat_map-append}
use Rattle.std.proofs.lemmas.List.{append-nil, take_all}
use Rattle.std.specs.List.{flat_map}
use Rattle.sb_rule.specs.declared.policies.Policy.{Policy}
use Rattle.sb_text.specs.PlainLines.{line_text}
use Rattle.sb_ruletext.specs.Printing.{policy_lines}
use Rattle.sb_ruletext.specs.Values.{is_policy_of_values}
use Rattle.sb_ruletext.proofs.Appended.{next_taken, part_appended, all_next}
use Rattle.sb_ruletext.proofs.printing.put_policies.Goals as goal

lines_more : (policies : List Policy) (policy : Policy) → flat_map policy_lines (policies ++ policy ∷ []) ≡ flat_map policy_lines policies ++ policy_lines policy
lines_more policies policy = rw (flat_map-append, append-nil) refl

one_more : (policies : List Policy) (policy : Policy)
    → flat_map line_text (flat_map policy_lines (policies ++ policy ∷ [])) ≡ flat_map line_text (flat_map policy_lines policies) ++ flat_map line_text (policy_lines policy)
one_more policies policy = ap (flat_map line_text) (lines_more policies policy) ∙ flat_map-append line_text (flat_map policy_lines policies) (policy_lines policy)

pub loop-policy-preserved : goal.loop-policy-preserved
loop-policy-preserved c =
    let taken = next_taken _ _ _ c.loop-policy-test.true c.policy-item.is in record {
      text = part_appended (λ policies. flat_map line_text (flat_map policy_lines policies)) c.args.policies.now c.loop-policy.policy-index c.policy-item.result _ _ _ _ taken
          (one_more _ c.policy-item.result) c.loop-policy.invariant.text c.in_ok-put_policy.ensures.text;
      values = all_next is_policy_of_values c.args.policies.now c.loop-policy.policy-index c.policy-item.result taken
          c.loop-policy.invariant.values c.in_ok-put_policy.ensures.values;
    }

pub returns-clause-text : goal.returns-clause-text
returns-clause-text c = rw (take_all c.loop-policy.policy-index c.args.policies.now c.loop-policy-test.false) at c.loop-policy.invariant.text

pub returns-clause-values : goal.returns-clause-values
returns-clause-values c = rw (take_all c.loop-policy.policy-index c.args.policies.now c.loop-policy-test.false) at c.loop-policy.invariant.values
