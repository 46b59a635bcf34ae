-- How units are written between quotes.
use Rattle.std.specs.Prelude.{◌≡◌, ℕ, ◌+◌, ◌/◌, ◌%◌, Bool, true, ◌&&◌, ◌||◌, ◌==◌, nat_lt, nat_le, List, [], ◌∷◌, ◌++◌, if◌then◌else◌}
use Rattle.std.specs.List.{flat_map, list_all}
use Rattle.sb_base.specs.Wide.{is_unit}

-- the lower-case digit of a number below 16
abbrev pub hex_digit : ℕ → ℕ
hex_digit d = if nat_lt d 10 then 48 + d else 87 + d

-- a printable unit as itself, `"` and `\` after a `\`, and any other as `\u` and four digits
abbrev pub quoted_unit : ℕ → List ℕ
quoted_unit u =
    if u == 34 || u == 92 then 92 ∷ u ∷ []
    else (if nat_le 32 u && nat_le u 126 then u ∷ []
    else 92 ∷ 117 ∷ hex_digit (u / 4096) ∷ hex_digit (u / 256 % 16) ∷ hex_digit (u / 16 % 16) ∷ hex_digit (u % 16) ∷ [])

-- the units between two `"`
abbrev pub quoted : List ℕ → List ℕ
quoted us = 34 ∷ flat_map quoted_unit us ++ 34 ∷ []

-- a printable ASCII byte
abbrev pub is_printable : ℕ → Bool
is_printable b = nat_le 32 b && nat_le b 126

-- quoted units are printable ASCII
abbrev pub QuotesArePrintable : Type 0
QuotesArePrintable = (us : List ℕ) → list_all is_unit us ≡ true → list_all is_printable (quoted us) ≡ true

-- different units are quoted differently
abbrev pub QuotesDiffer : Type 0
QuotesDiffer = (a b : List ℕ) → list_all is_unit a ≡ true → list_all is_unit b ≡ true → quoted a ≡ quoted b → a ≡ b
