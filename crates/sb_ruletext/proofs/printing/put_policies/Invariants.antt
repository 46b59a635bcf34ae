use Rattle.std.proofs.Common.{◌≡◌, true, ◌++◌, take}
use Rattle.std.specs.List.{flat_map, list_all}
use Rattle.sb_ruletext.specs.Printing.{policy_lines}
use Rattle.sb_text.specs.PlainLines.{line_text}
use Rattle.sb_ruletext.specs.Values.{is_policy_of_values}
use Rattle.sb_ruletext.proofs.printing.put_policies.Given as goal

abbrev pub invariant-loop-policy : goal.invariant-loop-policy
invariant-loop-policy l = record {
  text : l.text.items ≡ l.initial.text.items ++ flat_map line_text (flat_map policy_lines (take l.policy-index l.policies));
  values : list_all is_policy_of_values (take l.policy-index l.policies) ≡ true;
}
