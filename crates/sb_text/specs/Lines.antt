-- The lines of a text.
use Rattle.std.specs.Prelude.{ℕ, ◌+◌, ◌-◌, Bool, true, ◌||◌, ◌&&◌, List, [], ◌∷◌, length, take, slice_index, slice_get, map, Option, nat_lt, ◌==◌, if◌then◌else◌}
use Rattle.std.specs.List.{onto_first}

-- the bytes between LFs: a line for each LF, and one more if bytes follow the last LF
abbrev pub raw_lines : List ℕ → List (List ℕ)
raw_lines [] = []
raw_lines (b ∷ bs) = if b == 10 then [] ∷ raw_lines bs else onto_first b (raw_lines bs)

-- whether every line ends with LF
abbrev pub is_ended : List ℕ → Bool
is_ended [] = true
is_ended (b ∷ []) = b == 10
is_ended (b ∷ c ∷ bs) = is_ended (c ∷ bs)

-- a line as it is between LFs: its number, its bytes, and whether an LF follows it
pub record NumberedRawLine : Type 0 where
  pub number : ℕ
  pub bytes : List ℕ
  pub is_ended : Bool

-- these lines as they are between LFs, numbered from n: an LF follows each but the last, and the last if the test says so
abbrev pub numbered_from : ℕ → Bool → List (List ℕ) → List NumberedRawLine
numbered_from n last_ended [] = []
numbered_from n last_ended (line ∷ []) = record { number = n; bytes = line; is_ended = last_ended } ∷ []
numbered_from n last_ended (line ∷ next ∷ lines) =
    record { number = n; bytes = line; is_ended = true } ∷ numbered_from (n + 1) last_ended (next ∷ lines)

-- the lines of these bytes as they are between LFs, numbered from n
abbrev pub raw_lines_from : ℕ → List ℕ → List NumberedRawLine
raw_lines_from n bs = numbered_from n (is_ended bs) (raw_lines bs)

-- the lines of bytes as they are between LFs, numbered from 1
abbrev pub numbered_raw_lines : List ℕ → List NumberedRawLine
numbered_raw_lines bs = raw_lines_from 1 bs

-- whether a line ends with CR
abbrev pub has_cr : List ℕ → Bool
has_cr line = nat_lt 0 (length line) && slice_index line (length line - 1) == 13

-- a line without one CR at its end
abbrev pub without_cr : List ℕ → List ℕ
without_cr line = if has_cr line then take (length line - 1) line else line

-- a space or a tab
abbrev pub is_blank : ℕ → Bool
is_blank b = b == 32 || b == 9

-- whether a line is blank or a comment: it holds blanks alone, or its first other byte is `#`
abbrev pub is_skipped : List ℕ → Bool
is_skipped [] = true
is_skipped (b ∷ bs) = if is_blank b then is_skipped bs else b == 35

-- a line of a text: its number, and its bytes without LF and CR
pub record NumberedLine : Type 0 where
  pub number : ℕ
  pub text : List ℕ

-- of these lines, whose first has number n: those that are neither blank nor comments
abbrev pub lines_from : ℕ → List (List ℕ) → List NumberedLine
lines_from n [] = []
lines_from n (line ∷ lines) =
    if is_skipped (without_cr line) then lines_from (n + 1) lines
    else record { number = n; text = without_cr line } ∷ lines_from (n + 1) lines

-- the lines of a text that are neither blank nor comments, numbered from 1 among all its lines
abbrev pub lines_of : List ℕ → List NumberedLine
lines_of text = lines_from 1 (raw_lines text)

-- the line of this number, from 1 among all lines, blank and comment lines too
abbrev pub line_numbered : ℕ → List ℕ → Option (List ℕ)
line_numbered n text = slice_get (map without_cr (raw_lines text)) (n - 1)
