use Rattle.std.specs.List.{flat_map}
use Rattle.std.proofs.Common.{◌≡◌, ◌++◌, take}
use Rattle.sb_compare.specs.ChangeLines.{argument_text}
use Rattle.sb_compare.proofs.change_lines.put_arguments.Given as goal

abbrev pub invariant-loop-arg : goal.invariant-loop-arg
invariant-loop-arg l = l.text.items ≡ l.fn.text.items ++ flat_map argument_text (take l.arg-index l.args)
