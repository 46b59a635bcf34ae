-- What is true of the columns of a line.
use Rattle.std.specs.Prelude.{◌≡◌, ℕ, ◌+◌, ◌≤◌, List, ◌++◌, length}
use Rattle.sb_text.specs.Columns.{characters, column_at}
use Rattle.sb_text.specs.declared.columns.Layout.{Layout}

-- the column of the place between two parts of a line is one more than the number of characters of the first
abbrev pub ColumnsAreCounted : Type 0
ColumnsAreCounted = (layout : Layout) (front rest : List ℕ) → column_at layout (front ++ rest) (length rest) ≡ 1 + characters layout front

-- a column is from 1 to one more than the number of bytes of the line
abbrev pub ColumnsAreWithin : Type 0
ColumnsAreWithin = (layout : Layout) (line : List ℕ) (place : ℕ) → (1 ≤ column_at layout line place) × (column_at layout line place ≤ length line + 1)
