-- Where the path of a name leads.
use Rattle.std.specs.Prelude.{◌≡◌, ℕ, Bool, true, false, List, Option, None, Some}
use Rattle.sb_names.specs.Keys.{key_of, parent_of}
use Rattle.sb_names.specs.Maps.{found}
use Rattle.sb_names.specs.Nodes.{Nodes, IsAt, number_of, object_at, rows_of}
use Rattle.sb_names.specs.Trees.{parent_object}
use Rattle.sb_names.specs.declared.trees.Lookup.{Lookup}
use Rattle.sb_names.specs.declared.trees.Lookup.TheVariants as seek

-- the directory in which the name would be is there
abbrev pub has_directory : Lookup → Bool
has_directory seek.NoDirectory = false
has_directory (seek.Absent directory parent) = true
has_directory (seek.There parent node object) = true

-- the object of a directory: none of its own for the root
abbrev pub object_by : Nodes → Option ℕ → Option ℕ
object_by f None = None
object_by f (Some n) = object_at f n

-- a name leads there: its directory is missing; or its directory is there with this object, and the name is not; or the name is there,
-- with this node and object
abbrev pub IsSought : Nodes → List ℕ → Lookup → Type 0
IsSought f name seek.NoDirectory = parent_object (rows_of f) name ≡ None
IsSought f name (seek.Absent directory parent) =
    IsAt f (number_of directory) (key_of (parent_of name)) × (parent_object (rows_of f) name ≡ Some parent) × (found (rows_of f) name ≡ None)
IsSought f name (seek.There parent node object) =
    IsAt f (Some node.0) (key_of name) × (parent_object (rows_of f) name ≡ Some parent) × (found (rows_of f) name ≡ Some object)
