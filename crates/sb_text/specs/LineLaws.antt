-- What is true of the lines of each text.
use Rattle.std.specs.Prelude.{◌≡◌, ℕ, ◌+◌, Bool, true, false, ◌&&◌, nat_le, ◌==◌, List, [], ◌∷◌, ◌++◌, length, map, count_by, if◌then◌else◌}
use Rattle.std.specs.List.{flat_map, list_all}
use Rattle.sb_base.specs.OneLine.{is_no_lf}
use Rattle.sb_text.specs.Lines.{raw_lines, is_ended, without_cr, NumberedRawLine, numbered_from, numbered_raw_lines, lines_from, lines_of}

-- bytes without LF
abbrev pub is_line : List ℕ → Bool
is_line line = list_all is_no_lf line

-- a line and its LF
abbrev pub ended : List ℕ → List ℕ
ended line = line ++ 10 ∷ []

-- a line as it was in its text
abbrev pub whole : NumberedRawLine → List ℕ
whole line = if line.is_ended then ended line.bytes else line.bytes

-- lines written one after another, each with an LF, are read back
abbrev pub WrittenLinesAreRead : Type 0
WrittenLinesAreRead = (lines : List (List ℕ)) → list_all is_line lines ≡ true → raw_lines (flat_map ended lines) ≡ lines

-- the same of lines as they are between LFs
abbrev pub WrittenRawLinesAreRead : Type 0
WrittenRawLinesAreRead = (lines : List (List ℕ)) → list_all is_line lines ≡ true → numbered_raw_lines (flat_map ended lines) ≡ numbered_from 1 true lines

-- the lines as they are between LFs, without their numbers and ends, are the lines
abbrev pub RawLinesAreLines : Type 0
RawLinesAreLines = (bs : List ℕ) → map (λ line. line.bytes) (numbered_raw_lines bs) ≡ raw_lines bs

-- no line holds an LF
abbrev pub LinesHoldNoLf : Type 0
LinesHoldNoLf = (bs : List ℕ) → list_all is_line (raw_lines bs) ≡ true

-- the lines as they were in their text, joined, are the text
abbrev pub RawLinesJoin : Type 0
RawLinesJoin = (bs : List ℕ) → flat_map whole (numbered_raw_lines bs) ≡ bs

-- there is a line for each LF, and one more if bytes follow the last LF
abbrev pub LinesAreCounted : Type 0
LinesAreCounted = (bs : List ℕ) → length (raw_lines bs) ≡ count_by (λ b. b == 10) bs + (if is_ended bs then 0 else 1)

-- the lines of a text that is cut after an LF: those of its front, and then those of the rest
abbrev pub LinesAppend : Type 0
LinesAppend = (front rest : List ℕ) → raw_lines (ended front ++ rest) ≡ raw_lines (ended front) ++ raw_lines rest

-- the same of the lines that are neither blank nor comments, whose numbers go on in the rest
abbrev pub SayingLinesAppend : Type 0
SayingLinesAppend = (front rest : List ℕ) → lines_of (ended front ++ rest) ≡ lines_of (ended front) ++ lines_from (1 + length (raw_lines (ended front))) (raw_lines rest)

-- a number is from 1 to the number of lines
abbrev pub NumbersAreWithin : Type 0
NumbersAreWithin = (bs : List ℕ) → list_all (λ line. nat_le 1 line.number && nat_le line.number (length (raw_lines bs))) (lines_of bs) ≡ true

-- a CR at the end of a line is dropped, and only it
abbrev pub OneCrIsDropped : Type 0
OneCrIsDropped = (line : List ℕ) → without_cr (line ++ 13 ∷ []) ≡ line

-- a line that ends with another byte is kept
abbrev pub OtherEndsAreKept : Type 0
OtherEndsAreKept = (line : List ℕ) (b : ℕ) → (b == 13) ≡ false → without_cr (line ++ b ∷ []) ≡ line ++ b ∷ []
