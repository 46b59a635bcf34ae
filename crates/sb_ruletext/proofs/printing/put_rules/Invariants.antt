use Rattle.std.proofs.Common.{◌≡◌, true, ◌++◌, take, map}
use Rattle.std.specs.List.{flat_map, list_all}
use Rattle.sb_ruletext.specs.Printing.{rule_tokens}
use Rattle.sb_text.specs.PlainLines.{line_text}
use Rattle.sb_ruletext.specs.Values.{is_rule_of_values}
use Rattle.sb_ruletext.proofs.printing.put_rules.Given as goal

abbrev pub invariant-loop-rule : goal.invariant-loop-rule
invariant-loop-rule l = record {
  text : l.text.items ≡ l.initial.text.items ++ flat_map line_text (map rule_tokens (take l.rule-index l.rules));
  values : list_all is_rule_of_values (take l.rule-index l.rules) ≡ true;
}
