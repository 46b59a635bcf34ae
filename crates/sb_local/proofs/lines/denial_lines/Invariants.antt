use Rattle.std.proofs.Common.{◌≡◌, take}
use Rattle.std.specs.List.{flat_map}
use Rattle.sb_local.specs.Lines.{denial_line}
use Rattle.sb_local.proofs.lines.denial_lines.Given as goal

abbrev pub invariant-loop-denial : goal.invariant-loop-denial
invariant-loop-denial l = l.lines.items ≡ flat_map (denial_line l.script) (take l.denial-index l.denied)
