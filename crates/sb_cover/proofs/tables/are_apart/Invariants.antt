use Rattle.std.specs.List.{list_all}
use Rattle.std.proofs.Common.{◌≡◌, drop}
use Rattle.sb_cover.specs.Letters.{is_apart}
use Rattle.sb_cover.proofs.tables.are_apart.Given as goal

abbrev pub invariant-loop-cell : goal.invariant-loop-cell
invariant-loop-cell l = list_all (is_apart l.unit) (drop l.cell-index l.cells) ≡ list_all (is_apart l.unit) l.cells
