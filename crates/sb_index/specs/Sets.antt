-- Sets of the numbers of rules, as words of 64 bits.
use Rattle.std.specs.Prelude.{◌≡◌, ◌<◌, ℕ, ◌/◌, ◌%◌, ◌==◌, Bool, true, List, slice_index_or}
use Rattle.std.specs.Int.{bit_at}

-- whether the set has this number: its bit is 1
abbrev pub has : List ℕ → ℕ → Bool
has words k = bit_at (slice_index_or words (k / 64) 0) (k % 64) == 1

abbrev pub Has : List ℕ → ℕ → Type 0
Has words k = has words k ≡ true

-- the set has two numbers
abbrev pub HasSeveral : List ℕ → Type 0
HasSeveral words = (a : ℕ) × (b : ℕ) × (a < b) × Has words a × Has words b

-- the set has no two numbers below 256
abbrev pub HasAtMostOne : List ℕ → Type 0
HasAtMostOne words = (a b : ℕ) → a < b → b < 256 → Has words a → Has words b → ⊥
