-- Bounds, which divide all numbers into slots.
use Rattle.std.specs.Prelude.{◌<◌, ℕ, ◌-◌, ◌^◌, ◌==◌, nat_lt, List, [], ◌∷◌, length, slice_index_or, if◌then◌else◌}

-- the most bounds of a table: two for each rule of a policy
abbrev pub most_bounds : ℕ
most_bounds = 512

-- the first number of a slot, and the last
abbrev pub first_of : List ℕ → ℕ → ℕ
first_of bounds slot = if slot == 0 then 0 else slice_index_or bounds (slot - 1) 0

abbrev pub last_of : List ℕ → ℕ → ℕ
last_of bounds slot = if nat_lt slot (length bounds) then slice_index_or bounds slot 0 - 1 else 2 ^ 64 - 1

-- each bound is above the first number of the slot before it
abbrev pub IsRising : List ℕ → Type 0
IsRising bounds = (slot : ℕ) → slot < length bounds → first_of bounds slot < slice_index_or bounds slot 0

-- of numbers in order those above the last one, each once
abbrev pub rising_above : ℕ → List ℕ → List ℕ
rising_above last [] = []
rising_above last (n ∷ ns) = if nat_lt last n then n ∷ rising_above n ns else rising_above last ns
