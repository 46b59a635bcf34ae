use Rattle.std.specs.List.{flat_map}
use Rattle.std.proofs.Common.{◌≡◌, ◌++◌, take}
use Rattle.sb_compare.specs.ChangeLines.{change_line}
use Rattle.sb_compare.proofs.compare_texts.put_changes.Given as goal

abbrev pub invariant-loop-change : goal.invariant-loop-change
invariant-loop-change l = l.text.items ≡ l.fn.text.items ++ flat_map change_line (take l.change-index l.shown)
