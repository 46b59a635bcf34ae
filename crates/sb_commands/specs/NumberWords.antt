-- Numbers on the command line: 1 to 20 decimal digits, leading zeros included.
use Rattle.std.specs.Prelude.{ℕ, ◌&&◌, nat_le, Bool, false, List, Option, None, Some}
use Rattle.sb_text.specs.Numbers.{decimal_of}

-- whether there is a number, not below the lowest and not above the highest
abbrev pub is_within : ℕ → ℕ → Option ℕ → Bool
is_within low high None = false
is_within low high (Some n) = nat_le low n && nat_le n high

-- whether an argument is such a number
abbrev pub is_number : ℕ → ℕ → List ℕ → Bool
is_number low high word = is_within low high (decimal_of word)

-- the number that an argument is, and 0 if it is none
abbrev pub number_or_zero : Option ℕ → ℕ
number_or_zero None = 0
number_or_zero (Some n) = n

abbrev pub number_of : List ℕ → ℕ
number_of word = number_or_zero (decimal_of word)
