use Rattle.std.proofs.Common.{◌≡◌, ℕ, take}
use Rattle.std.specs.Int.{bit_at}
use Rattle.std.specs.List.{list_any}
use Rattle.std.specs.Prelude.{if◌then◌else◌}
use Rattle.sb_index.specs.Questions.{is_cell_in_bucket}
use Rattle.sb_index.proofs.needs.cells_bits.Given as goal

abbrev pub invariant-loop-cell : goal.invariant-loop-cell
invariant-loop-cell l = (bucket : ℕ) → bit_at l.bits bucket ≡ (if list_any (is_cell_in_bucket bucket) (take l.cell-index l.cells) then 1 else 0)
