-- The characters of bytes, and what is shown of them.
use Rattle.std.specs.Prelude.{ℕ, zero, suc, ◌-◌, Bool, false, not, ◌&&◌, ◌||◌, ◌==◌, List, [], ◌∷◌, ◌++◌, slice_index, Option, None, Some, if◌then◌else◌, codes}
use Rattle.std.specs.Char.{encode_utf8, is_control}
use Rattle.std.specs.List.{flat_map}
use Rattle.bstr.specs.Utf8.{decoded}
use Rattle.ucd_category.specs.GeneralCategory.{general_category, general_category_eq}
use Rattle.ucd_category.specs.declared.GeneralCategory.TheVariants.{Format}
use Rattle.sb_base.specs.Numbers.{hexadecimal}
use Rattle.sb_glyphs.specs.declared.glyphs.Glyph.{Glyph}
use Rattle.sb_glyphs.specs.declared.glyphs.Glyph.TheVariants.{Char, Byte}

-- a character, or a byte if there is none
abbrev pub glyph_by : Option ℕ → ℕ → Glyph
glyph_by (Some c) first = Char c
glyph_by None first = Byte first

-- how many bytes it takes
abbrev pub size_by : Option ℕ → ℕ → ℕ
size_by (Some c) size = size
size_by None size = 1

-- the first glyph of bytes: a character, or the first byte if no character begins there
abbrev pub first_glyph : List ℕ → Glyph
first_glyph bs = glyph_by (decoded bs).char (slice_index bs 0)

-- how many bytes it takes
abbrev pub first_size : List ℕ → ℕ
first_size bs = size_by (decoded bs).char (decoded bs).size

-- the glyphs of bytes, of which the first n belong to a character that began before them
abbrev pub glyphs_after : ℕ → List ℕ → List Glyph
glyphs_after n [] = []
glyphs_after (suc n) (b ∷ bs) = glyphs_after n bs
glyphs_after zero (b ∷ bs) = first_glyph (b ∷ bs) ∷ glyphs_after (first_size (b ∷ bs) - 1) bs

-- the characters of bytes, and the bytes between them at which no character begins
abbrev pub glyphs_of : List ℕ → List Glyph
glyphs_of bs = glyphs_after 0 bs

-- whether a character is shown by its number: a control or format character except a tab, or one that separates lines or paragraphs
abbrev pub is_hidden : ℕ → Bool
is_hidden c = not (c == 9) && (is_control c || c == 0x2028 || c == 0x2029 || general_category_eq (general_category c) Format)

-- whether a glyph is a tab
abbrev pub is_tab : Glyph → Bool
is_tab (Char c) = c == 9
is_tab (Byte b) = false

-- a number in braces; the opening has the first of them
abbrev pub escaped : List ℕ → ℕ → List ℕ
escaped opening number = opening ++ hexadecimal number ++ 125 ∷ []

-- what is shown of a glyph
abbrev pub shown_glyph : Glyph → List ℕ
shown_glyph (Char c) = if is_hidden c then escaped (codes "\\u{") c else encode_utf8 c
shown_glyph (Byte b) = escaped (codes "\\x{") b

-- what is shown of glyphs, and of bytes
abbrev pub shown : List Glyph → List ℕ
shown glyphs = flat_map shown_glyph glyphs

abbrev pub shown_bytes : List ℕ → List ℕ
shown_bytes bs = shown (glyphs_of bs)
