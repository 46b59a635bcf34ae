use Rattle.std.proofs.Common.{◌≡◌, false, drop}
use Rattle.sb_cover.specs.Shown.{are_plain}
use Rattle.sb_cover.proofs.shown.are_plain.Given as goal

abbrev pub invariant-loop-cell : goal.invariant-loop-cell
invariant-loop-cell l = are_plain l.follows (drop l.cell-index l.cells) ≡ are_plain false l.cells
