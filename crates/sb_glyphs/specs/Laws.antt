-- What is true of what is shown of bytes and of lines.
use Rattle.std.specs.Prelude.{◌≡◌, ℕ, suc, ◌+◌, ◌-◌, ◌≤◌, Bool, true, false, ◌||◌, ◌==◌, nat_lt, List, [], ◌∷◌, ◌++◌, length, take, drop, replicate, if◌then◌else◌}
use Rattle.std.specs.List.{list_all, list_any}
use Rattle.sb_glyphs.specs.declared.glyphs.Glyph.{Glyph}
use Rattle.sb_glyphs.specs.CleanTexts.{IsClean}
use Rattle.sb_glyphs.specs.Excerpts.{window_start, dots, width, excerpt, caret}
use Rattle.sb_glyphs.specs.Glyphs.{is_tab, shown, shown_glyph, shown_bytes}
use Rattle.sb_glyphs.specs.Tokens.{quoted_bytes}

-- the glyphs of a line that are shown before a place
abbrev pub before_place : ℕ → List Glyph → List Glyph
before_place place glyphs =
    take (place - window_start place (length glyphs)) (drop (window_start place (length glyphs)) glyphs)

-- what is shown of a line before a place
abbrev pub shown_before : ℕ → List Glyph → List ℕ
shown_before place glyphs = dots (nat_lt 0 (window_start place (length glyphs))) ++ shown (before_place place glyphs)

-- what is shown of a line begins with what is shown before a place of it
abbrev pub ExcerptsHaveTheirPlace : Type 0
ExcerptsHaveTheirPlace = (place : ℕ) (glyphs : List Glyph) → place ≤ length glyphs
    → (after : List ℕ) × (excerpt place glyphs ≡ shown_before place glyphs ++ after)

-- if no tab is shown before a place, its caret is as far to the right as that is wide
abbrev pub CaretsAreUnderTheirPlace : Type 0
CaretsAreUnderTheirPlace = (place : ℕ) (glyphs : List Glyph) → list_any is_tab (before_place place glyphs) ≡ false
    → caret place glyphs ≡ replicate (width (shown_before place glyphs)) 32 ++ 94 ∷ []

-- whether a byte is a space or a tab
abbrev pub is_blank_byte : ℕ → Bool
is_blank_byte b = b == 32 || b == 9

-- the column of a terminal after spaces and tabs, from a column on, where `next` is the column to which a tab leads
abbrev pub column_after_blanks : (ℕ → ℕ) → ℕ → List ℕ → ℕ
column_after_blanks next column [] = column
column_after_blanks next column (b ∷ bs) = column_after_blanks next (if b == 9 then next column else suc column) bs

-- the column of a terminal after a text and then glyphs are shown, from a column on, where `next` is the column to which a tab leads
abbrev pub column_after : (ℕ → ℕ) → ℕ → List ℕ → List Glyph → ℕ
column_after next column text [] = column + width text
column_after next column text (glyph ∷ glyphs) =
    if is_tab glyph then column_after next (next (column + width text)) [] glyphs else column_after next column (text ++ shown_glyph glyph) glyphs

-- the caret of a place follows spaces and tabs, after which a terminal is at the column at which it shows the place, wherever its tab stops are
abbrev pub CaretsFollowTabs : Type 0
CaretsFollowTabs = (next : ℕ → ℕ) (place : ℕ) (glyphs : List Glyph)
    → (blanks : List ℕ) × (caret place glyphs ≡ blanks ++ 94 ∷ []) × (list_all is_blank_byte blanks ≡ true)
    × (column_after_blanks next 0 blanks ≡ column_after next 0 (dots (nat_lt 0 (window_start place (length glyphs)))) (before_place place glyphs))

-- what a terminal shows of bytes, and of bytes between quotes, is clean, whatever the bytes are
abbrev pub ShownTextsAreClean : Type 0
ShownTextsAreClean = (bs : List ℕ) → IsClean (shown_bytes bs) × IsClean (quoted_bytes bs)
