use Rattle.std.proofs.Common.{◌≡◌, ℕ, List, true, length}
use Rattle.sb_cover.specs.Letters.{are_noted}
use Rattle.sb_cover.proofs.letters.note_cells.Given as goal

abbrev pub invariant-loop-cell : goal.invariant-loop-cell
invariant-loop-cell l = record {
  noted : (letters : List ℕ) → are_noted letters l.cells ≡ are_noted letters l.fn.cells;
  same : l.letters.items ≡ l.fn.letters.items;
}

abbrev pub decreases-loop-cell : goal.decreases-loop-cell
decreases-loop-cell l = length l.cells
