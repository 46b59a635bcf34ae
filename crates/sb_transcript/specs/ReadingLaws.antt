-- What is true of the lines that are read.
use Rattle.std.specs.Prelude.{◌≡◌, ℕ, false, List, Option, None, Some}
use Rattle.sb_text.specs.Lines.{has_cr}
use Rattle.sb_transcript.specs.Fields.{written}
use Rattle.sb_transcript.specs.Ranges.{InRange}
use Rattle.sb_transcript.specs.Reading.{line_of}
use Rattle.sb_transcript.specs.declared.read_lines.Line.{Line}

-- the line that is written as these bytes, if there is one: no line whose numbers are in range is written as bytes that are read as none
abbrev pub IsLineOf : List ℕ → Option Line → Type 0
IsLineOf bytes (Some line) = written line ≡ bytes
IsLineOf bytes None = (line : Line) → InRange line → written line ≡ bytes → ⊥

-- so is what is read of any bytes
abbrev pub ReadingIsExact : Type 0
ReadingIsExact = (bytes : List ℕ) → IsLineOf bytes (line_of bytes)

-- what is written of a line is read as that line
abbrev pub LinesAreRead : Type 0
LinesAreRead = (line : Line) → InRange line → line_of (written line) ≡ Some line

-- a line that is read is written as exactly the bytes that were read
abbrev pub ReadLinesAreWritten : Type 0
ReadLinesAreWritten = (bytes : List ℕ) (line : Line) → line_of bytes ≡ Some line → written line ≡ bytes

-- what is written of a line does not end with CR
abbrev pub LinesEndWithoutCr : Type 0
LinesEndWithoutCr = (line : Line) → InRange line → has_cr (written line) ≡ false

-- no two lines are written alike
abbrev pub LinesDiffer : Type 0
LinesDiffer = (a b : Line) → InRange a → InRange b → written a ≡ written b → a ≡ b
