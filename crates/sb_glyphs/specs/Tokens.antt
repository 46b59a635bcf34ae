-- Tokens as causes name them.
use Rattle.std.specs.Prelude.{ℕ, Bool, false, not, ◌||◌, ◌==◌, nat_lt, List, [], ◌∷◌, ◌++◌, length, take, if◌then◌else◌}
use Rattle.std.specs.List.{prefix_len}
use Rattle.sb_glyphs.specs.declared.glyphs.Glyph.{Glyph}
use Rattle.sb_glyphs.specs.declared.glyphs.Glyph.TheVariants.{Char, Byte}
use Rattle.sb_glyphs.specs.Excerpts.{dots}
use Rattle.sb_glyphs.specs.Glyphs.{glyphs_of, shown}

-- how many characters of a token are shown at most
abbrev pub most_named : ℕ
most_named = 40

-- the glyph is this ASCII character
abbrev pub is_char : ℕ → Glyph → Bool
is_char code (Char c) = c == code
is_char code (Byte b) = false

-- a space or a tab
abbrev pub is_blank_glyph : Glyph → Bool
is_blank_glyph glyph = is_char 32 glyph || is_char 9 glyph

-- the glyphs before the first that passes a test, all if none does
abbrev pub until : (Glyph → Bool) → List Glyph → List Glyph
until test glyphs = take (prefix_len (λ glyph. not (test glyph)) glyphs) glyphs

-- the first token of glyphs, of which the first is no blank: what is between its quotes, or all before the next blank
abbrev pub first_token : List Glyph → List Glyph
first_token [] = []
first_token (glyph ∷ glyphs) = if is_char 34 glyph then until (is_char 34) glyphs else until is_blank_glyph (glyph ∷ glyphs)

-- glyphs between quotes, cut after 40
abbrev pub quoted : List Glyph → List ℕ
quoted glyphs = 34 ∷ shown (take most_named glyphs) ++ dots (nat_lt most_named (length glyphs)) ++ 34 ∷ []

-- the same of the first token
abbrev pub quoted_token : List Glyph → List ℕ
quoted_token glyphs = quoted (first_token glyphs)

-- the same of bytes
abbrev pub quoted_bytes : List ℕ → List ℕ
quoted_bytes bs = quoted (glyphs_of bs)
