use Rattle.std.proofs.Common.{length}
use Rattle.sb_cover.proofs.positions.+step_cells.Given as goal

abbrev pub decreases-step_cells : goal.decreases-step_cells
decreases-step_cells l = length l.cells.now
