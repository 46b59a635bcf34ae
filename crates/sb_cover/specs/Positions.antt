-- Spots in patterns: the cells from a position on are to match what is still to come of a string.
use Rattle.std.specs.Prelude.{◌≡◌, ◌<◌, ◌+◌, ◌/◌, ◌%◌, ◌==◌, ◌&&◌, ℕ, Bool, List, [], length, drop, slice_index_or}
use Rattle.std.specs.List.{list_any}
use Rattle.sb_rule.specs.Matching.{matches}
use Rattle.sb_rule.specs.declared.cells.Cell.{Cell}

-- the cells of a pattern
abbrev pub cells_at : List (List Cell) → ℕ → List Cell
cells_at patterns k = slice_index_or patterns k []

-- the cells from a position on: a position is 512 times the number of a pattern, and a place in its cells
abbrev pub cells_from : List (List Cell) → ℕ → List Cell
cells_from patterns position = drop (position % 512) (cells_at patterns (position / 512))

-- the cells are those from a position on
pub record IsFrom (patterns : List (List Cell)) (position : ℕ) (cells : List Cell) : Type 0 where
  pub are : cells_from patterns position ≡ cells
  pub within : position % 512 + length cells < 512

-- a position is one of the pattern k, and the cells match the units
abbrev pub is_of : ℕ → List Cell → List ℕ → ℕ → Bool
is_of k cells units position = position / 512 == k && matches cells units

-- the position is one of the pattern k, and the cells from it on match the units
abbrev pub is_position_of : List (List Cell) → ℕ → List ℕ → ℕ → Bool
is_position_of patterns k units position = is_of k (cells_from patterns position) units position

-- some position of the pattern k matches the units
abbrev pub tells : List (List Cell) → List ℕ → ℕ → List ℕ → Bool
tells patterns positions k units = list_any (is_position_of patterns k units) positions

-- a pattern has fewer cells than a position has places
abbrev pub AreShort : List (List Cell) → Type 0
AreShort patterns = (k : ℕ) → length (cells_at patterns k) < 512
