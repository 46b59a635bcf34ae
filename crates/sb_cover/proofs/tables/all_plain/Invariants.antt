use Rattle.std.specs.List.{list_all}
use Rattle.std.proofs.Common.{◌≡◌, false, drop}
use Rattle.sb_cover.specs.Shown.{are_plain}
use Rattle.sb_cover.proofs.tables.all_plain.Given as goal

abbrev pub invariant-loop-cells : goal.invariant-loop-cells
invariant-loop-cells l = list_all (are_plain false) (drop l.cells-index l.patterns) ≡ list_all (are_plain false) l.patterns
