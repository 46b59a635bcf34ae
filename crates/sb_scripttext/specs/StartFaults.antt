-- Why an opening line cannot be placed.
use Rattle.std.specs.Prelude.{ℕ, Bool, false, List, if◌then◌else◌}
use Rattle.std.specs.List.{list_any}
use Rattle.sb_kernel.specs.Openings.{name_of}
use Rattle.sb_names.specs.Keys.{parent_of}
use Rattle.sb_statements.specs.declared.scripts.StartLine.{StartLine}
use Rattle.sb_statements.specs.declared.scripts.StartLine.TheVariants.{Dir, File, Key, Event}
use Rattle.sb_base.specs.Wide.{is_same}
use Rattle.sb_scripttext.specs.declared.faults.StartFault.{StartFault}
use Rattle.sb_scripttext.specs.declared.faults.StartFault.TheVariants.{NameTaken, NoParent, ParentIsFile}

-- the line is that of a file or directory, and its name is this
abbrev pub is_of_files : List ℕ → StartLine → Bool
is_of_files name (Dir other) = is_same name other
is_of_files name (File other attributes) = is_same name other
is_of_files name (Key other) = false
is_of_files name (Event other kind initial) = false

-- that of a key
abbrev pub is_of_keys : List ℕ → StartLine → Bool
is_of_keys name (Dir other) = false
is_of_keys name (File other attributes) = false
is_of_keys name (Key other) = is_same name other
is_of_keys name (Event other kind initial) = false

-- that of an event
abbrev pub is_of_events : List ℕ → StartLine → Bool
is_of_events name (Dir other) = false
is_of_events name (File other attributes) = false
is_of_events name (Key other) = false
is_of_events name (Event other kind initial) = is_same name other

-- the second line is of the same service as the first, and its object has this name
abbrev pub is_object : StartLine → List ℕ → StartLine → Bool
is_object (Dir own) name other = is_of_files name other
is_object (File own attributes) name other = is_of_files name other
is_object (Key own) name other = is_of_keys name other
is_object (Event own kind initial) name other = is_of_events name other

-- why a line cannot be placed after these, if it cannot: its name is taken, or its parent is there and can only be a file, or its parent is not there
abbrev pub start_fault : List StartLine → StartLine → StartFault
start_fault lines line =
    if list_any (is_object line (name_of line)) lines then NameTaken
    else (if list_any (is_object line (parent_of (name_of line))) lines then ParentIsFile
    else NoParent)
