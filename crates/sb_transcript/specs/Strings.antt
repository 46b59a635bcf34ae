-- Strings as they are between quotes, read back, and hexadecimal digits.
use Rattle.std.specs.Prelude.{ℕ, ◌+◌, ◌*◌, ◌%◌, ◌^◌, Bool, false, List, [], ◌∷◌, ◌==◌, Option, None, Some, if◌then◌else◌}
use Rattle.sb_text.specs.Numbers.{digit_of, value_from, below_2_64}
use Rattle.sb_transcript.specs.declared.strings.Escape.{Escape}
use Rattle.sb_transcript.specs.declared.strings.Escape.TheVariants.{Outside, Begun, NoDigit, OneDigit, TwoDigits, ThreeDigits}

-- the value of hexadecimal digits, highest first, if it is below 2^64
abbrev pub hexadecimal_value : List ℕ → Option ℕ
hexadecimal_value digits = below_2_64 (value_from 16 0 digits)

-- the value with one digit more after it, in 16 bits
abbrev pub with_digit : ℕ → ℕ → ℕ
with_digit value b = (value * 16 + digit_of b) % 2 ^ 16

-- the unit that ends with this byte, if one does: the byte itself unless it begins an escape, the one after a backslash, and the value of four digits
abbrev pub unit_of : Escape → ℕ → Option ℕ
unit_of Outside b = if b == 92 then None else Some b
unit_of Begun b = if b == 117 then None else Some b
unit_of NoDigit b = None
unit_of (OneDigit v) b = None
unit_of (TwoDigits v) b = None
unit_of (ThreeDigits v) b = Some (with_digit v b)

-- where the byte after this one is
abbrev pub escape_after : Escape → ℕ → Escape
escape_after Outside b = if b == 92 then Begun else Outside
escape_after Begun b = if b == 117 then NoDigit else Outside
escape_after NoDigit b = OneDigit (with_digit 0 b)
escape_after (OneDigit v) b = TwoDigits (with_digit v b)
escape_after (TwoDigits v) b = ThreeDigits (with_digit v b)
escape_after (ThreeDigits v) b = Outside

-- the closing quote
abbrev pub is_closing : Escape → ℕ → Bool
is_closing Outside b = b == 34
is_closing Begun b = false
is_closing NoDigit b = false
is_closing (OneDigit v) b = false
is_closing (TwoDigits v) b = false
is_closing (ThreeDigits v) b = false

-- units, with one before them if there is one
abbrev pub with_unit : Option ℕ → List ℕ → List ℕ
with_unit None units = units
with_unit (Some unit) units = unit ∷ units

-- the units of bytes up to a closing quote
abbrev pub unquoted_from : Escape → List ℕ → List ℕ
unquoted_from escape [] = []
unquoted_from escape (b ∷ bs) =
    if is_closing escape b then []
    else with_unit (unit_of escape b) (unquoted_from (escape_after escape b) bs)

-- the units of a string after its first quote
abbrev pub unquoted : List ℕ → List ℕ
unquoted bytes = unquoted_from Outside bytes
