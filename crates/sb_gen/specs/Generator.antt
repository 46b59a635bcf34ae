-- The numbers from which statements are made.
use Rattle.std.specs.Prelude.{ℕ, zero, suc, ◌+◌, ◌/◌, ◌%◌, ◌^◌}

-- by how much the number rises before each statement
abbrev pub increment : ℕ
increment = 0x9E3779B97F4A7C15

-- the number after this one
abbrev pub next : ℕ → ℕ
next x = (x + increment) % 2 ^ 64

-- the number after n more statements
abbrev pub after : ℕ → ℕ → ℕ
after zero x = x
after (suc n) x = after n (next x)

-- the three highest bits are the kind of a statement
abbrev pub kind_of : ℕ → ℕ
kind_of x = x / 2 ^ 61

-- the eight bits below them are the number that the statement names
abbrev pub number_of : ℕ → ℕ
number_of x = x / 2 ^ 53 % 256
