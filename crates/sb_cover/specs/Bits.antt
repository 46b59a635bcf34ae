-- Numbers read bit by bit, the highest first, and how they compare.
use Rattle.std.specs.Prelude.{◌≡◌, ◌<◌, ◌+◌, ◌-◌, ◌*◌, ◌/◌, ◌%◌, ◌^◌, ◌==◌, ℕ, zero, suc, nat_lt, bit_and, List, [], ◌∷◌, map, length, slice_index, take, if◌then◌else◌}
use Rattle.std.specs.List.{Contains}
use Rattle.sb_cover.specs.declared.bits.Comparison.{Comparison}

-- the number after some more bits
abbrev pub value_from : ℕ → List ℕ → ℕ
value_from v [] = v
value_from v (b ∷ bs) = value_from (v * 2 + b % 2) bs

-- the number of the first bits of a word
abbrev pub value_of : ℕ → List ℕ → ℕ
value_of width word = value_from 0 (take width word)

-- 0 if they are equal, 1 if the first is less, and else 2
abbrev pub bound_code : ℕ → ℕ → ℕ
bound_code v q = if v == q then 0 else (if nat_lt v q then 1 else 2)

-- how the bits of a number that a mask has compare with the bound, by the highest bits alone
abbrev pub code_of : ℕ → ℕ → Comparison → ℕ
code_of left v comparison = bound_code (bit_and v (comparison.mask / 2 ^ left)) (comparison.bound / 2 ^ left)

-- the same of all
abbrev pub codes_of : List Comparison → ℕ → ℕ → List ℕ
codes_of comparisons left v = map (code_of left v) comparisons

-- the state has the number of bits that are left, and how those that were read compare
abbrev pub IsRead : List Comparison → ℕ → List ℕ → List ℕ → Type 0
IsRead comparisons width word state =
    state ≡ (width - length word) ∷ codes_of comparisons (width - length word) (value_of width word)

-- the bits of a number
abbrev pub bits_of : ℕ → ℕ → List ℕ
bits_of zero n = []
bits_of (suc width) n = n / 2 ^ width % 2 ∷ bits_of width n

-- each number is below the limit
abbrev pub AreBelow : ℕ → List ℕ → Type 0
AreBelow limit values = (k : ℕ) → k < length values → slice_index values k < limit

-- two numbers compare alike
abbrev pub CompareAlike : List Comparison → ℕ → ℕ → Type 0
CompareAlike comparisons a b = codes_of comparisons 0 a ≡ codes_of comparisons 0 b

-- for each number of this width there is one among these that compares alike
abbrev pub AreNumbers : List Comparison → ℕ → List ℕ → Type 0
AreNumbers comparisons width values =
    (n : ℕ) → n < 2 ^ width → (v : ℕ) × Contains values v × CompareAlike comparisons v n × (v < 2 ^ width)
