-- Texts that do nothing to a terminal except to be shown.
use Rattle.std.specs.Prelude.{◌≡◌, ℕ, Bool, true, not, ◌||◌, ◌==◌, List}
use Rattle.std.specs.List.{list_all}
use Rattle.std.specs.Str.{chars, is_utf8}
use Rattle.sb_glyphs.specs.Glyphs.{is_hidden}

-- a line feed, or a character that is neither a control nor a format character, except a tab, nor one that separates lines or paragraphs
abbrev pub is_clean : ℕ → Bool
is_clean c = c == 10 || not (is_hidden c)

-- UTF-8 of such characters
abbrev pub IsClean : List ℕ → Type 0
IsClean text = (is_utf8 text ≡ true) × (list_all is_clean (chars text) ≡ true)
