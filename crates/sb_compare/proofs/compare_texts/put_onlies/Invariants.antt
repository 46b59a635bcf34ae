use Rattle.std.proofs.Common.{◌≡◌, ◌++◌, take}
use Rattle.sb_compare.specs.CompareTexts.{only_lines}
use Rattle.sb_compare.proofs.compare_texts.put_onlies.Given as goal

abbrev pub invariant-loop-policy : goal.invariant-loop-policy
invariant-loop-policy l = l.text.items ≡ l.fn.text.items ++ only_lines l.word l.theirs (take l.policy-index l.ours)
