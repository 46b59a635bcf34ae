use Rattle.std.specs.List.{list_all}
use Rattle.std.proofs.Common.{◌≡◌, ◌<◌, ℕ, true}
use Rattle.sb_cover.specs.Letters.{is_apart}
use Rattle.sb_cover.specs.Positions.{cells_at}
use Rattle.sb_cover.proofs.tables.all_apart.Given as goal

abbrev pub invariant-loop-cells : goal.invariant-loop-cells
invariant-loop-cells l = (k : ℕ) → k < l.cells-index → list_all (is_apart l.unit) (cells_at l.patterns k) ≡ true
