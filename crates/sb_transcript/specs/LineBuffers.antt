-- Lines in one buffer: its bytes, cut into lines of these lengths.
use Rattle.std.specs.Prelude.{ℕ, ◌+◌, List, [], ◌∷◌, take, drop}

-- bytes, cut into lines of these lengths
abbrev pub cut_by : List ℕ → List ℕ → List (List ℕ)
cut_by [] bytes = []
cut_by (n ∷ ns) bytes = take n bytes ∷ cut_by ns (drop n bytes)

-- how many bytes lines of these lengths have
abbrev pub total : List ℕ → ℕ
total [] = 0
total (n ∷ ns) = n + total ns
