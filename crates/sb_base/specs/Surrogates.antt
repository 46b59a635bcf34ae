-- Surrogate pairs, and which units are well-formed UTF-16.
use Rattle.std.specs.Prelude.{◌≡◌, ◌||◌, ◌&&◌, ℕ, Bool, true, false, not, nat_le, nat_lt, if◌then◌else◌, List, [], ◌∷◌}
use Rattle.std.specs.Bool.{beq}
use Rattle.std.specs.List.{list_all}
use Rattle.sb_base.specs.Wide.{is_unit, utf16_of}

-- the first half of a surrogate pair
abbrev pub is_high : ℕ → Bool
is_high u = nat_le 0xD800 u && nat_le u 0xDBFF

-- the second half of a surrogate pair
abbrev pub is_low : ℕ → Bool
is_low u = nat_le 0xDC00 u && nat_le u 0xDFFF

-- either half
abbrev pub is_surrogate : ℕ → Bool
is_surrogate u = is_high u || is_low u

-- well-formed UTF-16: the two halves of a pair are side by side, and any other unit is no surrogate
abbrev pub is_paired : List ℕ → Bool
is_paired [] = true
is_paired (u ∷ []) = not (is_surrogate u)
is_paired (u ∷ v ∷ us) = if is_high u && is_low v then is_paired us else not (is_surrogate u) && is_paired (v ∷ us)

-- well-formed UTF-16 as a walk, unit by unit: each second half is right after a first half, and each first half right before a second; the test tells
-- whether a first half is before the units
abbrev pub is_paired_after : Bool → List ℕ → Bool
is_paired_after after_high [] = not after_high
is_paired_after after_high (u ∷ us) = beq (is_low u) after_high && is_paired_after (is_high u) us

-- the walk finds what the definition says
abbrev pub WalksFindPairs : Type 0
WalksFindPairs = (us : List ℕ) → is_paired_after false us ≡ is_paired us

-- a character of Unicode, which no surrogate is
abbrev pub is_character : ℕ → Bool
is_character c = nat_lt c 0xD800 || (nat_le 0xE000 c && nat_lt c 0x11_0000)

-- the units of characters are well-formed UTF-16
abbrev pub CharactersArePaired : Type 0
CharactersArePaired = (cs : List ℕ) → list_all is_character cs ≡ true → is_paired (utf16_of cs) ≡ true

-- units without a surrogate alone are those of characters
abbrev pub PairedUnitsAreCharacters : Type 0
PairedUnitsAreCharacters = (us : List ℕ) → list_all is_unit us ≡ true → is_paired us ≡ true
    → (cs : List ℕ) × (list_all is_character cs ≡ true) × (utf16_of cs ≡ us)
