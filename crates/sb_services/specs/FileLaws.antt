-- Laws of files and directories.
use Rattle.std.specs.Prelude.{◌≡◌, ◌≤◌, ◌+◌, ◌⊎◌, ℕ, Bool, true, false, ◌&&◌, ◌||◌, nat_eq, List, [], ◌∷◌, length, None, Some, is_some, option_map, if◌then◌else◌}
use Rattle.std.specs.Cmp.Lexicographic.{pointwise}
use Rattle.std.specs.Map.{lookup}
use Rattle.sb_base.specs.Names.{is_name_of}
use Rattle.sb_call.specs.Statuses.{success}
use Rattle.sb_handles.specs.Agreements.{is_file}
use Rattle.sb_handles.specs.Tables.{Table, IsTable, held_by, with_handle, without_handle}
use Rattle.sb_handles.specs.declared.objects.Held.{Held}
use Rattle.sb_names.specs.Keys.{key_of, is_below}
use Rattle.sb_names.specs.Maps.{found, is_key, is_there}
use Rattle.sb_names.specs.Renames.{renamed_key}
use Rattle.sb_services.specs.FileCreation.{create, object_asked, on_file, was_created, was_overwritten, was_superseded}
use Rattle.sb_services.specs.Files.{Files, AreFiles, AreObjects, Agrees, object_found, rename, closed}
use Rattle.sb_services.specs.FileRequests.{needs_object}
use Rattle.sb_services.specs.declared.file_objects.FileObject.{FileObject}
use Rattle.sb_services.specs.declared.file_requests.FileRequest.{FileRequest}

-- a file.create that answers a status other than success leaves files and handles as they are; so does file.open, which is
-- one
abbrev pub RefusalsChangeNothing : Type 0
RefusalsChangeNothing = (files : Files) (handles : Table) (target : ℕ) (name : List ℕ) (request : FileRequest)
    → ((create files handles target name request).answer.status ≡ success → ⊥)
    → ((create files handles target name request).service ≡ files)
    × ((create files handles target name request).handles ≡ handles)

-- so does a file.rename
abbrev pub RefusedRenamesChangeNothing : Type 0
RefusedRenamesChangeNothing = (files : Files) (name to : List ℕ) → ((rename files name to).1.status ≡ success → ⊥) → (rename files name to).0 ≡ files

-- a file.create leaves the handles as they are, or grants one on a file or directory
abbrev pub CreatesGrantFiles : Type 0
CreatesGrantFiles = (files : Files) (handles : Table) (target : ℕ) (name : List ℕ) (request : FileRequest)
    → ((create files handles target name request).handles ≡ handles)
    ⊎ ((held : Held) × (is_file held.object.service ≡ true)
    × ((create files handles target name request).handles ≡ with_handle handles target held))

-- one that answers success grants one handle, on what is found under the name after it, with the access and the sharing that
-- were asked for
abbrev pub CreatesGrantTheirFile : Type 0
CreatesGrantTheirFile = (files : Files) (handles : Table) (target : ℕ) (name : List ℕ) (request : FileRequest)
    → (create files handles target name request).answer.status ≡ success
    → (number : ℕ) × (found (create files handles target name request).service.names name ≡ Some number)
    × ((create files handles target name request).handles ≡ with_handle handles target (on_file number request))

-- it makes one object at most
abbrev pub CreatesMakeOne : Type 0
CreatesMakeOne = (files : Files) (handles : Table) (target : ℕ) (name : List ℕ) (request : FileRequest)
    → length (create files handles target name request).service.objects ≤ length files.objects + 1

-- the extended words say that a file or directory was made
abbrev pub says_made : List ℕ → Bool
says_made words = pointwise nat_eq words (was_created ∷ [])

-- what was made is found under its name, with the number that follows those of all objects; every other name is found as before
abbrev pub CreatesAreFound : Type 0
CreatesAreFound = (files : Files) (handles : Table) (target : ℕ) (name other : List ℕ) (request : FileRequest)
    → found (create files handles target name request).service.names other
    ≡ (if says_made (create files handles target name request).answer.ext && is_key (key_of other) (key_of name)
    then Some (length files.objects + 1)
    else found files.names other)

-- what is under a key is still there after a file.create
abbrev pub CreatesKeepNames : Type 0
CreatesKeepNames = (files : Files) (handles : Table) (target : ℕ) (name key : List ℕ) (request : FileRequest) (number : ℕ)
    → lookup (is_key key) files.names ≡ Some number → lookup (is_key key) (create files handles target name request).service.names ≡ Some number

-- the extended words say that the attributes were replaced
abbrev pub says_replaced : List ℕ → Bool
says_replaced words = pointwise nat_eq words (was_superseded ∷ []) || pointwise nat_eq words (was_overwritten ∷ [])

-- with the attributes that were asked for
abbrev pub with_asked : FileRequest → FileObject → FileObject
with_asked request object = record object { attributes = request.attributes }

-- what is found after a file.create that made it is what was asked for; after one that replaced its attributes it has those that
-- were asked for; and any other leaves it as it was
abbrev pub CreatesGiveAttributes : Type 0
CreatesGiveAttributes = (files : Files) (handles : Table) (target : ℕ) (name : List ℕ) (request : FileRequest) → AreObjects files
    → object_found (create files handles target name request).service name
    ≡ (if says_made (create files handles target name request).answer.ext then Some (object_asked request)
    else (if says_replaced (create files handles target name request).answer.ext then option_map (with_asked request) (object_found files name)
    else object_found files name))

-- and what is under every other name is as it was
abbrev pub CreatesLeaveOthers : Type 0
CreatesLeaveOthers = (files : Files) (handles : Table) (target : ℕ) (name other : List ℕ) (request : FileRequest) → AreObjects files
    → is_key (key_of other) (key_of name) ≡ false
    → object_found (create files handles target name request).service other ≡ object_found files other

-- one that needs what is there, as each file.open does, makes nothing
abbrev pub OpensLeaveNames : Type 0
OpensLeaveNames = (files : Files) (handles : Table) (target : ℕ) (name : List ℕ) (request : FileRequest) → needs_object request.disposition ≡ true
    → (create files handles target name request).service.names ≡ files.names

-- a rename leaves all objects and open handles
abbrev pub RenamesKeepObjects : Type 0
RenamesKeepObjects = (files : Files) (name to : List ℕ)
    → ((rename files name to).0.objects ≡ files.objects) × ((rename files name to).0.shares ≡ files.shares)

-- a name is another, or lies below it
abbrev pub is_at : List ℕ → List ℕ → Bool
is_at name other = is_key (key_of name) (key_of other) || is_below (key_of name) (key_of other)

-- each name that is there is found after a rename that succeeded under its new one, with its object
abbrev pub RenamesMove : Type 0
RenamesMove = (files : Files) (name to key : List ℕ) → AreFiles files → is_name_of to ≡ true → (rename files name to).1.status ≡ success
    → is_some (lookup (is_key key) files.names) ≡ true
    → lookup (is_key (renamed_key (key_of name) (key_of to) key)) (rename files name to).0.names ≡ lookup (is_key key) files.names

-- so each that is neither FROM nor below it is found as before
abbrev pub RenamesLeaveOthers : Type 0
RenamesLeaveOthers = (files : Files) (name to other : List ℕ) → AreFiles files → is_name_of to ≡ true → (rename files name to).1.status ≡ success
    → is_at name other ≡ false → is_there files.names other ≡ true → found (rename files name to).0.names other ≡ found files.names other

-- under FROM nothing is found any more
abbrev pub RenamesLeaveNothing : Type 0
RenamesLeaveNothing = (files : Files) (name to other : List ℕ) → AreFiles files → is_name_of to ≡ true → (rename files name to).1.status ≡ success
    → is_at name other ≡ true → found (rename files name to).0.names other ≡ None

-- and nothing is found that is not under the new name of one that was there
abbrev pub RenamesAddNothing : Type 0
RenamesAddNothing = (files : Files) (name to other : List ℕ) → (rename files name to).1.status ≡ success
    → is_there (rename files name to).0.names other ≡ true
    → (key : List ℕ) × (is_some (lookup (is_key key) files.names) ≡ true) × (renamed_key (key_of name) (key_of to) key ≡ key_of other)

-- a file.create keeps the agreement
abbrev pub CreatesKeepFiles : Type 0
CreatesKeepFiles = (files : Files) (handles : Table) (target : ℕ) (name : List ℕ) (request : FileRequest) → IsTable handles → Agrees files handles
    → Agrees (create files handles target name request).service (create files handles target name request).handles

-- after a handle was closed, `closed` makes files and handles agree again
abbrev pub ClosesKeepFiles : Type 0
ClosesKeepFiles = (files : Files) (table : Table) (target number : ℕ) (held : Held) → IsTable table → Agrees files table
    → held_by table target number ≡ Some held → Agrees (closed files number) (without_handle table target number)

-- a handle that was closed on any other object leaves the agreement
abbrev pub ClosesLeaveFiles : Type 0
ClosesLeaveFiles = (files : Files) (table : Table) (target number : ℕ) (held : Held) → IsTable table → Agrees files table
    → held_by table target number ≡ Some held → is_file held.object.service ≡ false → Agrees files (without_handle table target number)

-- and so does one that was granted on any other object
abbrev pub GrantsLeaveFiles : Type 0
GrantsLeaveFiles = (files : Files) (table : Table) (target : ℕ) (held : Held) → IsTable table → Agrees files table
    → is_file held.object.service ≡ false → Agrees files (with_handle table target held)
