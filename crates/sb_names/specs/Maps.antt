-- A finite map from folded names: its rows in strictly rising order, so that equal maps are equal lists.
use Rattle.std.specs.Prelude.{ℕ, Bool, List, Option, is_some, nat_eq}
use Rattle.std.specs.BTreeMap.{insert_entry}
use Rattle.std.specs.Cmp.Lexicographic.{pointwise, slice_cmp}
use Rattle.std.specs.List.Sorted.{IsStrictlySortedBy}
use Rattle.std.specs.Map.{keys_of, lookup, remove_entry, set_value}
use Rattle.std.specs.Ordering.{nat_cmp}
use Rattle.sb_names.specs.Keys.{key_of}

-- rows of a folded name and what is under it
abbrev pub Rows : Type 0 → Type 0
Rows V = List (List ℕ × V)

-- two keys are equal
abbrev pub is_key : List ℕ → List ℕ → Bool
is_key a b = pointwise nat_eq a b

module _ {V : Type 0} where
  -- the keys rise strictly, unit by unit
  abbrev pub Rises : Rows V → Type 0
  Rises rows = IsStrictlySortedBy (slice_cmp nat_cmp) (keys_of rows)

  -- what is under a name
  abbrev pub found : Rows V → List ℕ → Option V
  found rows name = lookup (is_key (key_of name)) rows

  -- something is under a name
  abbrev pub is_there : Rows V → List ℕ → Bool
  is_there rows name = is_some (found rows name)

  -- with a value under a name, in the place of what was there
  abbrev pub put : Rows V → List ℕ → V → Rows V
  put rows name value = insert_entry (slice_cmp nat_cmp) rows (key_of name) value

  -- with another value in a row that is there
  abbrev pub replaced : Rows V → List ℕ → V → Rows V
  replaced rows name value = set_value (is_key (key_of name)) rows value

  -- without the row of a name
  abbrev pub without : Rows V → List ℕ → Rows V
  without rows name = remove_entry (is_key (key_of name)) rows
