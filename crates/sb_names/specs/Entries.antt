-- The rows of a map from names as an index has them: each under the hash of its name, and a number among the names with that hash.
use Rattle.std.specs.Prelude.{◌≡◌, ◌-◌, ◌^◌, ℕ, Bool, true, ◌&&◌, ◌==◌, nat_le, List, [], ◌∷◌, Option, None, option_map, ⊤}
use Rattle.std.specs.BTreeMap.{insert_entry, is_at}
use Rattle.std.specs.Cmp.Lexicographic.{slice_cmp}
use Rattle.std.specs.List.{find, list_all}
use Rattle.std.specs.Map.{lookup, values_of}
use Rattle.std.specs.Ordering.{nat_cmp}
use Rattle.sb_names.specs.Hashes.{hash_of}
use Rattle.sb_names.specs.Maps.{Rows, is_key}
use Rattle.sb_base.specs.Orders.{by_pair}

-- a hash and a number, and the row that is there
abbrev pub Entry : Type 0 → Type 0
Entry V = (ℕ × ℕ) × (List ℕ × V)

abbrev pub Entries : Type 0 → Type 0
Entries V = List (Entry V)

module _ {V : Type 0} where
  -- the rows, in rising order
  abbrev pub rows_in : Entries V → Rows V
  rows_in [] = []
  rows_in (e ∷ es) = insert_entry (slice_cmp nat_cmp) (rows_in es) e.1.0 e.1.1

  -- an entry is that of this key
  abbrev pub is_of : List ℕ → Entry V → Bool
  is_of key e = is_key key e.1.0

  -- the number of a key and its value
  abbrev pub place_in : Entry V → ℕ × V
  place_in e = (e.0.1, e.1.1)

  abbrev pub place_of : List ℕ → Entries V → Option (ℕ × V)
  place_of key es = option_map place_in (find (is_of key) es)

  -- the value alone
  abbrev pub value_by : Option (ℕ × V) → Option V
  value_by place = option_map (λ p. p.1) place

  -- an entry is under the hash of its key, with a number of 64 bits
  abbrev pub is_hashed : Entry V → Bool
  is_hashed e = e.0.0 == hash_of None e.1.0 && nat_le e.0.1 (2 ^ 64 - 1)

  abbrev pub AreHashed : Entries V → Type 0
  AreHashed es = list_all is_hashed es ≡ true

  -- no two entries have one place, and no two have one key
  abbrev pub AreApart : Entries V → Type 0
  AreApart [] = ⊤
  AreApart (e ∷ es) = (lookup (is_at (by_pair e.0)) es ≡ None) × (lookup (is_key e.1.0) (values_of es) ≡ None) × AreApart es

  -- what an index keeps
  abbrev pub IsKept : Entries V → Type 0
  IsKept es = AreHashed es × AreApart es
