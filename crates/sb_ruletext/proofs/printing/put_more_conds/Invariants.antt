use Rattle.std.proofs.Common.{◌≡◌, true, ◌++◌, take}
use Rattle.std.specs.List.{flat_map, list_all}
use Rattle.std.specs.Prelude.{codes}
use Rattle.sb_ruletext.specs.Printing.{spaced, joined_tokens}
use Rattle.sb_ruletext.specs.Values.{is_test_of_values}
use Rattle.sb_ruletext.proofs.printing.put_more_conds.Given as goal

abbrev pub invariant-loop-cond : goal.invariant-loop-cond
invariant-loop-cond l = record {
  text : l.text.items ≡ l.initial.text.items ++ spaced (flat_map (joined_tokens (codes "and") l.tag) (take l.cond-index l.conds));
  values : list_all (λ cond. is_test_of_values cond.test) (take l.cond-index l.conds) ≡ true;
}
