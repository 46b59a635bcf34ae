-- No bytes in place of a text that is missing.
use Rattle.std.specs.Prelude.{ℕ, List, [], Option, None, Some}
use Rattle.sb_text.specs.Lines.{line_numbered}

-- no bytes, if there is no text
abbrev pub or_empty : Option (List ℕ) → List ℕ
or_empty None = []
or_empty (Some text) = text

-- the line of this number, from 1, and no bytes if there is none
abbrev pub line_or_empty : ℕ → List ℕ → List ℕ
line_or_empty number text = or_empty (line_numbered number text)
