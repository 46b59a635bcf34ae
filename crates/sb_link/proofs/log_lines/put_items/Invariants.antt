use Rattle.std.proofs.Common.{◌≡◌, ◌++◌, take}
use Rattle.std.specs.List.{flat_map}
use Rattle.sb_link.specs.Lines.{item_line}
use Rattle.sb_link.proofs.log_lines.put_items.Given as goal

abbrev pub invariant-loop-item : goal.invariant-loop-item
invariant-loop-item l = l.lines.items ≡ l.initial.lines.items ++ flat_map (item_line l.script l.entries) (take l.item-index l.log)
