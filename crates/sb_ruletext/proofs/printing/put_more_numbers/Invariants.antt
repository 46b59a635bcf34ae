use Rattle.std.proofs.Common.{◌≡◌, true, ◌++◌, take}
use Rattle.std.specs.List.{flat_map, list_all}
use Rattle.sb_ruletext.specs.Printing.{spaced, or_tokens}
use Rattle.sb_base.specs.Numbers.{is_word64}
use Rattle.sb_ruletext.proofs.printing.put_more_numbers.Given as goal

abbrev pub invariant-loop-number : goal.invariant-loop-number
invariant-loop-number l = record {
  text : l.text.items ≡ l.initial.text.items ++ spaced (flat_map or_tokens (take l.number-index l.numbers));
  values : list_all is_word64 (take l.number-index l.numbers) ≡ true;
}
