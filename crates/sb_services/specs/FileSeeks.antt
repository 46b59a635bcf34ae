-- Where the path of a name leads among files and directories.
use Rattle.std.specs.Prelude.{◌≡◌, ℕ, Bool, true, false, List, Option, None, Some}
use Rattle.sb_handles.specs.Shares.{Shares}
use Rattle.sb_names.specs.Keys.{key_of, parent_of}
use Rattle.sb_names.specs.Maps.{found}
use Rattle.sb_names.specs.Nodes.{Nodes, IsAt, number_of, rows_of}
use Rattle.sb_names.specs.declared.trees.Lookup.{Lookup}
use Rattle.sb_names.specs.declared.trees.Lookup.TheVariants as seek
use Rattle.sb_services.specs.Files.{has_parent, is_directory, object_at}
use Rattle.sb_services.specs.declared.file_objects.FileObject.{FileObject}

-- names may be in a directory of this object, and in the root, which has none
abbrev pub admits : List FileObject → Option ℕ → Bool
admits objects None = true
admits objects (Some number) = is_directory (object_at objects number).kind

-- the parent of a name is there and a directory, or not; that does not depend on what is open
abbrev pub ParentIs : Bool → Nodes → List FileObject → List ℕ → Type 0
ParentIs b names objects name =
    (shares : Shares) → has_parent (record { names = rows_of names; objects = objects; shares = shares }) name ≡ b

-- a name leads there: its directory is missing or a file; or its directory is there, and the name is not; or the name is there
abbrev pub IsSought : Nodes → List FileObject → List ℕ → Lookup → Type 0
IsSought names objects name seek.NoDirectory = ParentIs false names objects name
IsSought names objects name (seek.Absent directory parent) =
    ParentIs true names objects name × IsAt names (number_of directory) (key_of (parent_of name)) × (found (rows_of names) name ≡ None)
IsSought names objects name (seek.There parent node object) =
    ParentIs true names objects name × IsAt names (Some node.0) (key_of name) × (found (rows_of names) name ≡ Some object)
