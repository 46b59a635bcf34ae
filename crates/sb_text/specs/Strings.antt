-- Strings as they are between quotes: what is written of one, and what it means.
use Rattle.std.specs.Prelude.{◌≡◌, ◌&&◌, ℕ, Bool, true, List}
use Rattle.std.specs.List.{list_all}
use Rattle.std.specs.Str.{IsUtf8}
use Rattle.sb_base.specs.Wide.{is_text_unit}
use Rattle.sb_base.specs.Surrogates.{is_paired}
use Rattle.sb_text.specs.Tokens.{Lexeme, Quoted, utf8_of, string_of}
use Rattle.sb_text.specs.TokenLaws.{is_quoted_byte}

-- text that can be written between quotes: well-formed UTF-16 without control units and `"`
abbrev pub is_text : List ℕ → Bool
is_text units = list_all is_text_unit units && is_paired units

-- a string between quotes
abbrev pub string_token : List ℕ → Lexeme
string_token units = Quoted (utf8_of units)

-- a string comes back, and what is written of it is UTF-8 and can be between quotes
pub record ComesBack (units : List ℕ) : Type 0 where
  pub string : string_of (utf8_of units) ≡ units
  pub utf8 : IsUtf8 (utf8_of units)
  pub quoted : list_all is_quoted_byte (utf8_of units) ≡ true

-- so does each text without a surrogate alone
abbrev pub StringsComeBack : Type 0
StringsComeBack = (units : List ℕ) → list_all is_text_unit units ≡ true → is_paired units ≡ true → ComesBack units

-- what is between quotes, and is UTF-8, means such a text
abbrev pub QuotedStringsAreText : Type 0
QuotedStringsAreText = (quoted : List ℕ) → IsUtf8 quoted → list_all is_quoted_byte quoted ≡ true
    → (list_all is_text_unit (string_of quoted) ≡ true) × (is_paired (string_of quoted) ≡ true)
