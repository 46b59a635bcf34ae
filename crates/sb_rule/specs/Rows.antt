-- Rows, by which matching goes over a string from its end to its front.
use Rattle.std.specs.Prelude.{◌≡◌, ◌≤◌, ℕ, Bool, false, List, length, drop, slice_index_or}
use Rattle.sb_rule.specs.Matching.{matches}
use Rattle.sb_rule.specs.declared.cells.Cell.{Cell}

-- the row tells at each place in the cells, their end included, whether the cells from there on match the units
abbrev pub IsRow : List Cell → List ℕ → List Bool → Type 0
IsRow cells units row = (at : ℕ) → at ≤ length cells → slice_index_or row at false ≡ matches (drop at cells) units
