-- Laws of maps from names and of trees of names.
use Rattle.std.specs.Prelude.{◌≡◌, ℕ, Bool, true, false, List, None, Some, is_some, Ok, if◌then◌else◌}
use Rattle.std.specs.Map.{lookup}
use Rattle.sb_base.specs.Names.{is_name_of}
use Rattle.sb_names.specs.Keys.{key_of}
use Rattle.sb_names.specs.Maps.{Rows, Rises, is_key, is_there, found, put, without}
use Rattle.sb_names.specs.Renames.{is_at_or_below, renamed_key, renamed_tree}
use Rattle.sb_names.specs.Trees.{AreFolded, HasParents, IsTree, has_parent, has_parent_with}

-- what is put under a name is found there, and under every other name what was found before
abbrev pub PutsAreFound : Type 0 → Type 0
PutsAreFound V = (rows : Rows V) (name other : List ℕ) (value : V)
    → found (put rows name value) other ≡ (if is_key (key_of other) (key_of name) then Some value else found rows other)

-- what is under a key is still there after something is put under a name that is not there
abbrev pub PutsKeepRows : Type 0 → Type 0
PutsKeepRows V = (rows : Rows V) (name key : List ℕ) (value old : V) → found rows name ≡ None → lookup (is_key key) rows ≡ Some old
    → lookup (is_key key) (put rows name value) ≡ Some old

-- what is taken out is not found, and under every other name what was found before
abbrev pub OutIsOut : Type 0 → Type 0
OutIsOut V = (rows : Rows V) (name other : List ℕ) → Rises rows
    → found (without rows name) other ≡ (if is_key (key_of other) (key_of name) then None else found rows other)

-- a name that is put below a directory that is there leaves a tree
abbrev pub PutsKeepTrees : Type 0
PutsKeepTrees = (rows : Rows ℕ) (name : List ℕ) (object : ℕ) → IsTree rows → has_parent rows name ≡ true → IsTree (put rows name object)

-- a name that is renamed leaves a tree
abbrev pub RenamesKeepTrees : Type 0
RenamesKeepTrees = (rows rows' : Rows ℕ) (old new : List ℕ) → IsTree rows → AreFolded rows → is_name_of old ≡ true → is_name_of new ≡ true
    → renamed_tree rows old new ≡ Ok rows' → IsTree rows'

-- if the object of each directory passes a test, it does so after a name is put in such a directory
abbrev pub PutsKeepParents : Type 0
PutsKeepParents = (test : ℕ → Bool) (rows : Rows ℕ) (name : List ℕ) (object : ℕ) → HasParents test rows → has_parent_with test rows name ≡ true
    → is_there rows name ≡ false → HasParents test (put rows name object)

-- and after one is renamed into such a directory
abbrev pub RenamesKeepParents : Type 0
RenamesKeepParents = (test : ℕ → Bool) (rows rows' : Rows ℕ) (old new : List ℕ) → IsTree rows → AreFolded rows → is_name_of old ≡ true → is_name_of new ≡ true
    → HasParents test rows → has_parent_with test rows new ≡ true → renamed_tree rows old new ≡ Ok rows' → HasParents test rows'

-- what is under a name is found after a rename under the name to which its own was renamed
abbrev pub RenamesAreFound : Type 0
RenamesAreFound = (rows rows' : Rows ℕ) (old new key : List ℕ) → IsTree rows → AreFolded rows → is_name_of new ≡ true → renamed_tree rows old new ≡ Ok rows'
    → is_some (lookup (is_key key) rows) ≡ true
    → lookup (is_key (renamed_key (key_of old) (key_of new) key)) rows' ≡ lookup (is_key key) rows

-- and nothing else is found
abbrev pub RenamesAddNothing : Type 0
RenamesAddNothing = (rows rows' : Rows ℕ) (old new other : List ℕ) → renamed_tree rows old new ≡ Ok rows' → is_some (lookup (is_key other) rows') ≡ true
    → (key : List ℕ) × (is_some (lookup (is_key key) rows) ≡ true) × (renamed_key (key_of old) (key_of new) key ≡ other)

-- and under the old name, and below it, nothing is found any more
abbrev pub RenamesLeaveNothing : Type 0
RenamesLeaveNothing = (rows rows' : Rows ℕ) (old new key : List ℕ) → IsTree rows → AreFolded rows → is_name_of new ≡ true → renamed_tree rows old new ≡ Ok rows'
    → is_at_or_below (key_of old) key ≡ true → lookup (is_key key) rows' ≡ None

-- a folded name is a name
abbrev pub NamesFold : Type 0
NamesFold = (name : List ℕ) → is_name_of name ≡ true → is_name_of (key_of name) ≡ true
