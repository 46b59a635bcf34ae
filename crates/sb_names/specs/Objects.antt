-- Rows by the numbers of their objects, and the index from objects to nodes.
use Rattle.std.specs.Prelude.{◌≡◌, ℕ, Bool, true, false, not, ◌==◌, List, Option, None, Some, is_some, option_map}
use Rattle.std.specs.List.{list_all}
use Rattle.std.specs.Map.{lookup}
use Rattle.sb_arena.specs.Forests.{value_at}
use Rattle.sb_names.specs.Maps.{Rows, is_key}
use Rattle.sb_names.specs.Nodes.{Nodes}
use Rattle.sb_names.specs.declared.trees.NameNode.{NameNode}

-- the folded name of a row whose object has this number, or None if there is no such row
module _ {V : Type 0} where
  abbrev pub IsNameBy : (V → ℕ) → Rows V → ℕ → Option (List ℕ) → Type 0
  IsNameBy number_of rows number None = list_all (λ row. not (number_of row.1 == number)) rows ≡ true
  IsNameBy number_of rows number (Some name) = option_map number_of (lookup (is_key name) rows) ≡ Some number

-- the same where rows lead to the numbers themselves
abbrev pub IsNameOf : Rows ℕ → ℕ → Option (List ℕ) → Type 0
IsNameOf rows number name = IsNameBy (λ n. n) rows number name

-- a node is there and has this object
abbrev pub has_object : Option NameNode → ℕ → Bool
has_object None number = false
has_object (Some node) number = node.object == number

-- no node has this object
abbrev pub HasNoHolder : Nodes → ℕ → Type 0
HasNoHolder f number = (n : ℕ) → has_object (value_at f n) number ≡ false

-- the index has the pair of each live node: its object and its number. It may have others: who looks an object up tests what it finds
abbrev pub HasObjects : {V : Type 0} → (ℕ × ℕ → Option V) → Nodes → Type 0
HasObjects objects f = (q : ℕ × ℕ) → has_object (value_at f q.1) q.0 ≡ true → is_some (objects q) ≡ true
