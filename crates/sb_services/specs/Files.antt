-- The files and directories, and what each call but file.create does.
use Rattle.std.specs.Prelude.{◌≡◌, ◌+◌, ◌-◌, ℕ, Bool, true, false, ◌&&◌, not, List, [], ◌∷◌, ◌++◌, length, Option, None, Some, is_some, option_map, slice_index_or, slice_set, if◌then◌else◌}
use Rattle.std.specs.List.{list_all}
use Rattle.sb_call.specs.Statuses.{refusal, showing, success, invalid_parameter, name_not_found, name_collision, path_not_found, sharing_violation}
use Rattle.sb_call.specs.declared.replies.Answer.{Answer}
use Rattle.sb_handles.specs.Agreements.{AgreesOnFiles}
use Rattle.sb_handles.specs.Shares.{Shares, conflict_of, left}
use Rattle.sb_handles.specs.Tables.{Table}
use Rattle.sb_names.specs.Keys.{key_of, parent_of, is_below}
use Rattle.sb_names.specs.Maps.{Rows, Rises, found, is_there, put}
use Rattle.sb_names.specs.Numbers.{AreNumbered, is_given}
use Rattle.sb_names.specs.Renames.{renamed_rows}
use Rattle.sb_names.specs.Trees.{AreFolded, AreNamed, IsTree}
use Rattle.sb_services.specs.declared.file_objects.FileKind.{FileKind}
use Rattle.sb_services.specs.declared.file_objects.FileKind.TheVariants as kind
use Rattle.sb_services.specs.declared.file_objects.FileObject.{FileObject}

-- the number of the object under each name, each object ever made, and the open handles.
-- Object number n is at place n - 1, and there are as many as were ever made
pub record Files : Type 0 where
  pub names : Rows ℕ
  pub objects : List FileObject
  pub shares : Shares

abbrev pub no_files : Files
no_files = record { names = []; objects = []; shares = [] }

-- the object of this number
abbrev pub object_at : List FileObject → ℕ → FileObject
object_at objects number = slice_index_or objects (number - 1) (record { kind = kind.File; attributes = 0 })

abbrev pub object_of : Files → ℕ → FileObject
object_of files number = object_at files.objects number

abbrev pub is_directory : FileKind → Bool
is_directory kind.File = false
is_directory kind.Directory = true

abbrev pub is_directory_by : Option ℕ → Files → Bool
is_directory_by None files = false
is_directory_by (Some number) files = is_directory (object_of files number).kind

-- a directory of this name is there; the root always is
abbrev pub is_directory_there : Files → List ℕ → Bool
is_directory_there files [] = true
is_directory_there files (u ∷ us) = is_directory_by (found files.names (u ∷ us)) files

-- the parent of a name is there, and is a directory
abbrev pub has_parent : Files → List ℕ → Bool
has_parent files name = is_directory_there files (parent_of name)

-- what is under a name
abbrev pub object_found : Files → List ℕ → Option FileObject
object_found files name = option_map (object_of files) (found files.names name)

-- with a file or directory more; its number is one more than the count of objects ever made
abbrev pub with_object : Files → List ℕ → FileObject → Files
with_object files name object =
    record files { names = put files.names name (length files.objects + 1); objects = files.objects ++ object ∷ [] }

-- with other attributes of the object of this number
abbrev pub with_attributes : Files → ℕ → ℕ → Files
with_attributes files number attributes =
    record files { objects = slice_set files.objects (number - 1) (record (object_of files number) { attributes = attributes }) }

-- a new access with its sharing conflicts with an open handle of this object
abbrev pub is_shared_out : Files → ℕ → ℕ → ℕ → Bool
is_shared_out files number access sharing = is_some (conflict_of files.shares number access sharing)

-- 0 a file, 1 a directory
abbrev pub kind_number : FileKind → ℕ
kind_number kind.File = 0
kind_number kind.Directory = 1

-- file.query, by what is under the name
abbrev pub query_by : Option ℕ → Files → Answer
query_by None files = refusal name_not_found
query_by (Some number) files = showing ((object_of files number).attributes ∷ kind_number (object_of files number).kind ∷ [])

-- file.query: the first case that applies
abbrev pub query : Files → List ℕ → Answer
query files name = if not (has_parent files name) then refusal path_not_found else query_by (found files.names name) files

-- the files, and the answer
abbrev pub rename_is_refused : Files → ℕ → Files × Answer
rename_is_refused files status = (files, refusal status)

-- the access that a rename needs of the object itself, delete, and the sharing that it leaves, all
abbrev pub rename_access : ℕ
rename_access = 0x10000

abbrev pub rename_sharing : ℕ
rename_sharing = 7

-- file.rename of what is under the name
abbrev pub rename_by : Option ℕ → Files → List ℕ → List ℕ → Files × Answer
rename_by None files name to = rename_is_refused files name_not_found
rename_by (Some number) files name to =
    if is_below (key_of name) (key_of to) then rename_is_refused files invalid_parameter
    else (if not (has_parent files to) then rename_is_refused files path_not_found
    else (if is_there files.names to then rename_is_refused files name_collision
    else (if is_shared_out files number rename_access rename_sharing then rename_is_refused files sharing_violation
    else (record files { names = renamed_rows files.names name to }, refusal success))))

-- file.rename: the first case that applies
abbrev pub rename : Files → List ℕ → List ℕ → Files × Answer
rename files name to =
    if not (has_parent files name) then rename_is_refused files path_not_found
    else rename_by (found files.names name) files name to

-- a file or directory of the opening namespace can be placed if its parent is there, a directory, and its name is free
abbrev pub can_start : Files → List ℕ → Bool
can_start files name = has_parent files name && not (is_there files.names name)

-- a directory or a file
abbrev pub kind_of : Bool → FileKind
kind_of dir = if dir then kind.Directory else kind.File

-- the files with one of the opening namespace, if it can be placed
abbrev pub started : Files → List ℕ → Bool → ℕ → Files
started files name dir attributes =
    if can_start files name then with_object files name (record { kind = kind_of dir; attributes = attributes }) else files

-- the files after a handle was closed
abbrev pub closed : Files → ℕ → Files
closed files handle = record files { shares = left files.shares handle }

-- the shares are those of the open handles on files and directories
abbrev pub Agrees : Files → Table → Type 0
Agrees files handles = AgreesOnFiles files.shares handles

-- each name leads to an object that was made, no two to one, and is in a directory; each open handle is on an object that was made
pub record AreObjects (files : Files) : Type 0 where
  pub made : AreNumbered (λ n. n) (length files.objects) files.names
  pub parents : list_all (λ row. has_parent files row.0) files.names ≡ true
  pub shared : list_all (λ row. is_given (length files.objects) row.0.0) files.shares ≡ true

-- and each name is one. Names are kept folded, in rising order
pub record AreFiles (files : Files) : Type 0 where
  pub objects : AreObjects files
  pub tree : IsTree files.names
  pub named : AreNamed files.names
  pub folded : AreFolded files.names
  pub rise : Rises files.names
