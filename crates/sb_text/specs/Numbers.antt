-- The numbers of the texts.
use Rattle.std.specs.Prelude.{ℕ, ◌+◌, ◌-◌, ◌*◌, ◌^◌, Bool, ◌&&◌, ◌||◌, nat_lt, nat_le, ◌==◌, List, [], ◌∷◌, length, Option, None, Some, if◌then◌else◌}
use Rattle.std.specs.List.{list_all}

-- `0` to `9`
abbrev pub is_decimal_digit : ℕ → Bool
is_decimal_digit b = nat_le 48 b && nat_le b 57

-- `0` to `9`, `A` to `F` and `a` to `f`
abbrev pub is_hexadecimal_digit : ℕ → Bool
is_hexadecimal_digit b = is_decimal_digit b || (nat_le 65 b && nat_le b 70) || (nat_le 97 b && nat_le b 102)

-- the value of a digit
abbrev pub digit_of : ℕ → ℕ
digit_of b = if nat_le 97 b then b - 87 else (if nat_le 65 b then b - 55 else b - 48)

-- the value of digits in a base, highest first, after digits whose value is n
abbrev pub value_from : ℕ → ℕ → List ℕ → ℕ
value_from base n [] = n
value_from base n (b ∷ bs) = value_from base (n * base + digit_of b) bs

-- a number below 2^64
abbrev pub below_2_64 : ℕ → Option ℕ
below_2_64 n = if nat_lt n (2 ^ 64) then Some n else None

-- whether there are 1 to `most` bytes, each of them a digit
abbrev pub are_digits : (ℕ → Bool) → ℕ → List ℕ → Bool
are_digits is_digit most word = nat_le 1 (length word) && nat_le (length word) most && list_all is_digit word

-- 1 to 20 decimal digits with a value below 2^64
abbrev pub decimal_of : List ℕ → Option ℕ
decimal_of word = if are_digits is_decimal_digit 20 word then below_2_64 (value_from 10 0 word) else None

-- 1 to 16 hexadecimal digits
abbrev pub hexadecimal_of : List ℕ → Option ℕ
hexadecimal_of word = if are_digits is_hexadecimal_digit 16 word then below_2_64 (value_from 16 0 word) else None

-- a decimal number, or `0x` and a hexadecimal one
abbrev pub number_of : List ℕ → Option ℕ
number_of (b ∷ c ∷ bs) = if b == 48 && c == 120 then hexadecimal_of bs else decimal_of (b ∷ c ∷ bs)
number_of word = decimal_of word
