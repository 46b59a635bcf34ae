-- A number for a directory and a component, by which an index finds the node.
use Rattle.std.specs.Prelude.{ℕ, ◌+◌, ◌*◌, ◌%◌, ◌^◌, List, [], ◌∷◌, Option, None, Some}

-- the hash with one more unit
abbrev pub hash_more : ℕ → ℕ → ℕ
hash_more hash unit = (hash * 0x100000001B3 % 2 ^ 64 + unit) % 2 ^ 64

abbrev pub hash_from : ℕ → List ℕ → ℕ
hash_from hash [] = hash
hash_from hash (u ∷ us) = hash_from (hash_more hash u) us

-- the hash with which a directory begins
abbrev pub hash_in : Option ℕ → ℕ
hash_in None = 0
hash_in (Some n) = (n + 1) % 2 ^ 64

-- the hash of a folded component in a directory
abbrev pub hash_of : Option ℕ → List ℕ → ℕ
hash_of directory key = hash_from (hash_in directory) key
