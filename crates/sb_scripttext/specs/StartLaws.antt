-- Why an opening line cannot be placed, in the words of the namespace in which the lines before it are placed.
use Rattle.std.specs.Prelude.{◌≡◌, ℕ, Bool, true, false, not, ◌||◌, List, [], ◌∷◌, Option, None, Some, Ok}
use Rattle.sb_services.specs.Files.{is_directory, object_found}
use Rattle.sb_services.specs.declared.file_objects.FileObject.{FileObject}
use Rattle.sb_kernel.specs.Namespaces.{Space}
use Rattle.sb_kernel.specs.Openings.{name_of, placed, opened}
use Rattle.sb_names.specs.Keys.{parent_of}
use Rattle.sb_names.specs.Maps.{is_there}
use Rattle.sb_statements.specs.declared.scripts.StartLine.{StartLine}
use Rattle.sb_statements.specs.declared.scripts.StartLine.TheVariants.{Dir, File, Key, Event}
use Rattle.sb_scripttext.specs.StartFaults.{start_fault}
use Rattle.sb_scripttext.specs.declared.faults.StartFault.{StartFault}
use Rattle.sb_scripttext.specs.declared.faults.StartFault.TheVariants.{NameTaken, NoParent, ParentIsFile}

-- an object of this name is in the service of an opening line: among files and directories, keys, or events
abbrev pub is_in_service : Space → StartLine → List ℕ → Bool
is_in_service ns (Dir own) name = is_there ns.files.names name
is_in_service ns (File own attributes) name = is_there ns.files.names name
is_in_service ns (Key own) name = is_there ns.keys.names name
is_in_service ns (Event own kind initial) name = is_there ns.events.rows name

-- no name at all is that of the root
abbrev pub is_root : List ℕ → Bool
is_root [] = true
is_root (u ∷ us) = false

-- there is an object, and it is a file
abbrev pub is_file_by : Option FileObject → Bool
is_file_by None = false
is_file_by (Some object) = not (is_directory object.kind)

-- the line is that of a file or directory, and a file has this name
abbrev pub is_file_in_service : Space → StartLine → List ℕ → Bool
is_file_in_service ns (Dir own) name = is_file_by (object_found ns.files name)
is_file_in_service ns (File own attributes) name = is_file_by (object_found ns.files name)
is_file_in_service ns (Key own) name = false
is_file_in_service ns (Event own kind initial) name = false

-- the name of a line is taken in its service
abbrev pub is_taken : Space → StartLine → Bool
is_taken ns line = is_in_service ns line (name_of line)

-- its parent is there; the root always is
abbrev pub is_parent_there : Space → StartLine → Bool
is_parent_there ns line = is_root (parent_of (name_of line)) || is_in_service ns line (parent_of (name_of line))

-- its parent is a file
abbrev pub is_parent_file : Space → StartLine → Bool
is_parent_file ns line = is_file_in_service ns line (parent_of (name_of line))

-- what a fault says of a line is so in a namespace
abbrev pub IsTrueIn : StartFault → Space → StartLine → Type 0
IsTrueIn NameTaken ns line = is_taken ns line ≡ true
IsTrueIn NoParent ns line = (is_taken ns line ≡ false) × (is_parent_there ns line ≡ false)
IsTrueIn ParentIsFile ns line = (is_taken ns line ≡ false) × (is_parent_file ns line ≡ true)

-- if a line cannot be placed in the namespace of the lines before it, what its fault says is so in that namespace
abbrev pub StartFaultsAreTrue : Type 0
StartFaultsAreTrue = (lines : List StartLine) (line : StartLine) (ns : Space) → opened lines ≡ Ok ns → placed ns line ≡ None
    → IsTrueIn (start_fault lines line) ns line
