-- A tree of names: a map in which each name is in a directory that is there, and what may be asked of it.
use Rattle.std.specs.Prelude.{◌≡◌, ℕ, Bool, true, false, List, [], ◌∷◌, Option, None, Some, option_map}
use Rattle.std.specs.List.{list_all}
use Rattle.sb_base.specs.Names.{is_name_of}
use Rattle.sb_names.specs.Keys.{key_of, parent_of}
use Rattle.sb_names.specs.Maps.{Rows, found, is_key, is_there}

-- the directory of this name is there; the root always is
abbrev pub is_directory_there : Rows ℕ → List ℕ → Bool
is_directory_there rows [] = true
is_directory_there rows (u ∷ us) = is_there rows (u ∷ us)

-- the parent directory of a name is there
abbrev pub has_parent : Rows ℕ → List ℕ → Bool
has_parent rows name = is_directory_there rows (parent_of name)

-- the object of a directory: none of its own for the root, and None if it is not there
abbrev pub directory_object : Rows ℕ → List ℕ → Option (Option ℕ)
directory_object rows [] = Some None
directory_object rows (u ∷ us) = option_map (λ object. Some object) (found rows (u ∷ us))

-- the object of the parent directory of a name
abbrev pub parent_object : Rows ℕ → List ℕ → Option (Option ℕ)
parent_object rows name = directory_object rows (parent_of name)

-- names are kept folded
abbrev pub AreFolded : Rows ℕ → Type 0
AreFolded rows = list_all (λ row. is_key (key_of row.0) row.0) rows ≡ true

-- each name is a name
abbrev pub AreNamed : Rows ℕ → Type 0
AreNamed rows = list_all (λ row. is_name_of row.0) rows ≡ true

-- there is an object, and it passes a test
abbrev pub passes : (ℕ → Bool) → Option ℕ → Bool
passes test None = false
passes test (Some object) = test object

-- the directory of this name is there, and its object passes a test; the root always does
abbrev pub is_directory_with : (ℕ → Bool) → Rows ℕ → List ℕ → Bool
is_directory_with test rows [] = true
is_directory_with test rows (u ∷ us) = passes test (found rows (u ∷ us))

-- the parent directory of a name is there, and its object passes a test
abbrev pub has_parent_with : (ℕ → Bool) → Rows ℕ → List ℕ → Bool
has_parent_with test rows name = is_directory_with test rows (parent_of name)

-- each name is in a directory whose object passes a test
abbrev pub HasParents : (ℕ → Bool) → Rows ℕ → Type 0
HasParents test rows = list_all (λ row. has_parent_with test rows row.0) rows ≡ true

-- each name is in a directory that is there
abbrev pub IsTree : Rows ℕ → Type 0
IsTree rows = list_all (λ row. has_parent rows row.0) rows ≡ true
