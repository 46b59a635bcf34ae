-- What is shown of a line, and the caret under a place of it.
use Rattle.std.specs.Prelude.{ℕ, ◌-◌, Bool, false, ◌||◌, nat_lt, min, List, [], ◌∷◌, ◌++◌, length, take, drop, replicate, if◌then◌else◌, codes}
use Rattle.std.specs.Str.{chars}
use Rattle.unicode_width.specs.Width.{str_width}
use Rattle.sb_glyphs.specs.declared.glyphs.Glyph.{Glyph}
use Rattle.sb_glyphs.specs.Glyphs.{is_tab, shown, shown_glyph}

-- how many glyphs of a line are shown at most, and how many before the place at most, if as many follow
abbrev pub most_glyphs : ℕ
most_glyphs = 120

abbrev pub most_before : ℕ
most_before = 60

-- the place of the first glyph that is shown, of n glyphs round this place
abbrev pub window_start : ℕ → ℕ → ℕ
window_start place n = min (place - most_before) (n - most_glyphs)

-- dots, if something is left out
abbrev pub dots : Bool → List ℕ
dots left_out = if left_out then codes ".." else []

-- what is shown of glyphs from one on; before them there may be others
abbrev pub excerpt_from : Bool → ℕ → List Glyph → List ℕ
excerpt_from others start glyphs =
    dots (others || nat_lt 0 start) ++ shown (take most_glyphs (drop start glyphs)) ++ dots (nat_lt most_glyphs (length glyphs - start))

-- what is shown of glyphs round a place
abbrev pub excerpt_in : Bool → ℕ → List Glyph → List ℕ
excerpt_in others place glyphs = excerpt_from others (window_start place (length glyphs)) glyphs

-- what is shown of a line round a place: all of it, or 120 glyphs
abbrev pub excerpt : ℕ → List Glyph → List ℕ
excerpt place glyphs = excerpt_in false place glyphs

-- how many columns of a terminal a text takes
abbrev pub width : List ℕ → ℕ
width text = str_width false (chars text)

-- spaces as wide as a text and then glyphs are shown, in which tabs stay tabs
abbrev pub blanks_under : List ℕ → List Glyph → List ℕ
blanks_under text [] = replicate (width text) 32
blanks_under text (glyph ∷ glyphs) =
    if is_tab glyph then replicate (width text) 32 ++ 9 ∷ blanks_under [] glyphs else blanks_under (text ++ shown_glyph glyph) glyphs

-- the caret under a place of glyphs that are shown from one on
abbrev pub caret_from : Bool → ℕ → ℕ → List Glyph → List ℕ
caret_from others start place glyphs = blanks_under (dots (others || nat_lt 0 start)) (take (place - start) (drop start glyphs)) ++ 94 ∷ []

-- the caret under a place of glyphs that are shown round it
abbrev pub caret_in : Bool → ℕ → List Glyph → List ℕ
caret_in others place glyphs = caret_from others (window_start place (length glyphs)) place glyphs

-- the caret under a place of a line that is shown round it
abbrev pub caret : ℕ → List Glyph → List ℕ
caret place glyphs = caret_in false place glyphs

-- glyphs and a caret under a place of them
abbrev pub excerpt_lines_in : Bool → ℕ → List Glyph → List ℕ
excerpt_lines_in others place glyphs = excerpt_in others place glyphs ++ 10 ∷ caret_in others place glyphs ++ 10 ∷ []

-- a line, and a caret under its place
abbrev pub excerpt_lines : ℕ → List Glyph → List ℕ
excerpt_lines place glyphs = excerpt_lines_in false place glyphs
