use Rattle.std.proofs.Common.{◌<◌, ℕ, length}
use Rattle.sb_cover.specs.Positions.{cells_at}
use Rattle.sb_cover.proofs.tables.are_short.Given as goal

abbrev pub invariant-loop-cells : goal.invariant-loop-cells
invariant-loop-cells l = (k : ℕ) → k < l.cells-index → length (cells_at l.patterns k) < 512
