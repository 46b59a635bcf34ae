-- What is true of the numbers of the texts.
use Rattle.std.specs.Prelude.{◌≡◌, ℕ, ◌^◌, ◌<◌, false, ◌∷◌, Some}
use Rattle.std.specs.Fmt.{decimal, digits}
use Rattle.sb_text.specs.Numbers.{decimal_of, number_of}

-- the decimal digits of a number are read as that number
abbrev pub DecimalsAreRead : Type 0
DecimalsAreRead = (n : ℕ) → n < 2 ^ 64 → (decimal_of (decimal n) ≡ Some n) × (number_of (decimal n) ≡ Some n)

-- `0x` and the lower-case hexadecimal digits of a number are read as that number
abbrev pub HexadecimalsAreRead : Type 0
HexadecimalsAreRead = (n : ℕ) → n < 2 ^ 64 → number_of (48 ∷ 120 ∷ digits 16 false n) ≡ Some n
