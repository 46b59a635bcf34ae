-- How numbers are written, and how many bits they have.
use Rattle.std.specs.Prelude.{ℕ, ◌^◌, Bool, false, nat_lt, List, ◌++◌, length, drop, codes}
use Rattle.std.specs.Fmt.{digits}

-- lower-case hexadecimal digits, without zeros before them
abbrev pub hexadecimal : ℕ → List ℕ
hexadecimal n = digits 16 false n

-- the same, with zeros before them if they are fewer than eight
abbrev pub eight_digits : ℕ → List ℕ
eight_digits n = drop (length (hexadecimal n)) (codes "00000000") ++ hexadecimal n

-- a number of at most 64 bits
abbrev pub is_word64 : ℕ → Bool
is_word64 n = nat_lt n (2 ^ 64)

-- a number of at most 32 bits
abbrev pub is_word32 : ℕ → Bool
is_word32 n = nat_lt n (2 ^ 32)
