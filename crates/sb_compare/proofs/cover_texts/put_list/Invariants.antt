use Rattle.std.specs.List.{flat_map}
use Rattle.std.proofs.Common.{◌≡◌, ◌++◌, take}
use Rattle.sb_compare.specs.CoverTexts.{decided_lines}
use Rattle.sb_compare.proofs.cover_texts.put_list.Given as goal

abbrev pub invariant-loop-decided : goal.invariant-loop-decided
invariant-loop-decided l = l.text.items ≡ l.fn.text.items ++ flat_map decided_lines (take l.decided-index l.list)
