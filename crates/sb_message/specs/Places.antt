-- What a message shows of the line of a fault.
use Rattle.std.specs.Prelude.{ℕ, suc, zero, ◌-◌, List, [], length, take, drop}
use Rattle.sb_message.specs.declared.messages.FaultyText.{FaultyText}
use Rattle.sb_message.specs.declared.messages.FaultyText.TheVariants.{Schedule}
use Rattle.sb_glyphs.specs.Excerpts.{excerpt_lines}
use Rattle.sb_glyphs.specs.Glyphs.{glyphs_of}
use Rattle.sb_glyphs.specs.Tokens.{quoted_token}

-- how many glyphs of a line are before a column: in a schedule columns count bytes, elsewhere characters
abbrev pub place_of : FaultyText → ℕ → List ℕ → ℕ
place_of Schedule column line = length (glyphs_of (take (column - 1) line))
place_of _ column line = column - 1

-- the token that begins at a column of a line, as causes name it
abbrev pub named_at : FaultyText → ℕ → List ℕ → List ℕ
named_at text column line = quoted_token (drop (place_of text column line) (glyphs_of line))

-- lines, if a column is meant
abbrev pub if_column : ℕ → List ℕ → List ℕ
if_column zero lines = []
if_column (suc column) lines = lines

-- the line that is shown and the caret, if a column is meant
abbrev pub shown_line : FaultyText → ℕ → List ℕ → List ℕ
shown_line text column line = if_column column (excerpt_lines (place_of text column line) (glyphs_of line))
