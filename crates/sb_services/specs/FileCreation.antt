-- What file.create and file.open do.
use Rattle.std.specs.Prelude.{◌+◌, ℕ, ◌&&◌, ◌||◌, not, List, [], ◌∷◌, length, Option, None, Some, if◌then◌else◌}
use Rattle.sb_call.specs.Statuses.{success, name_not_found, name_collision, path_not_found, sharing_violation, file_is_a_directory, not_a_directory}
use Rattle.sb_handles.specs.Effects.{Effect, refused, grants}
use Rattle.sb_handles.specs.Shares.{opened}
use Rattle.sb_handles.specs.Tables.{Table}
use Rattle.sb_handles.specs.declared.objects.Held.{Held}
use Rattle.sb_handles.specs.declared.objects.Share.{Share}
use Rattle.sb_handles.specs.declared.objects.Service.TheVariants as service
use Rattle.sb_names.specs.Maps.{found}
use Rattle.sb_services.specs.Files.{Files, has_parent, is_directory, kind_of, object_of, is_shared_out, with_object, with_attributes}
use Rattle.sb_services.specs.FileRequests.{needs_free_name, needs_object, replaces, wants_directory, wants_file}
use Rattle.sb_services.specs.declared.file_objects.FileObject.{FileObject}
use Rattle.sb_services.specs.declared.file_requests.Disposition.{Disposition}
use Rattle.sb_services.specs.declared.file_requests.Disposition.TheVariants as disposition
use Rattle.sb_services.specs.declared.file_requests.FileRequest.{FileRequest}

-- what was done, as the extended word
abbrev pub was_superseded : ℕ
was_superseded = 0

abbrev pub was_opened : ℕ
was_opened = 1

abbrev pub was_created : ℕ
was_created = 2

abbrev pub was_overwritten : ℕ
was_overwritten = 3

-- a handle on the file or directory of this number
abbrev pub on_file : ℕ → FileRequest → Held
on_file number request =
    record { object = record { service = service.File; number = number }; access = request.access; sharing = request.sharing }

-- access and sharing of that handle
abbrev pub share_of : FileRequest → Share
share_of request = record { access = request.access; sharing = request.sharing }

-- the object that is made
abbrev pub object_asked : FileRequest → FileObject
object_asked request = record { kind = kind_of (wants_directory request); attributes = request.attributes }

-- a handle on an object is granted, and takes part in sharing
abbrev pub opens : Files → Table → ℕ → ℕ → FileRequest → ℕ → Effect Files
opens files handles target number request result =
    grants (record files { shares = opened files.shares number (handles.granted + 1) (share_of request) })
    handles target (on_file number request) success (result ∷ [])

-- what was done to content that is replaced
abbrev pub replaced_as : Disposition → ℕ
replaced_as disposition.Supersede = was_superseded
replaced_as _ = was_overwritten

-- file.create of what is there and may be opened
abbrev pub open_by : Files → Table → ℕ → ℕ → FileRequest → Effect Files
open_by files handles target number request =
    if replaces request.disposition
    then opens (with_attributes files number request.attributes) handles target number request (replaced_as request.disposition)
    else opens files handles target number request was_opened

-- file.create, by what is under the name: the first case that applies
abbrev pub create_by : Option ℕ → Files → Table → ℕ → List ℕ → FileRequest → Effect Files
create_by None files handles target name request =
    if needs_object request.disposition then refused files handles name_not_found
    else opens (with_object files name (object_asked request)) handles target (length files.objects + 1) request was_created
create_by (Some number) files handles target name request =
    if needs_free_name request.disposition then refused files handles name_collision
    else (if not (is_directory (object_of files number).kind) && wants_directory request then refused files handles not_a_directory
    else (if is_directory (object_of files number).kind && (wants_file request || replaces request.disposition)
    then refused files handles file_is_a_directory
    else (if is_shared_out files number request.access.0 request.sharing.0 then refused files handles sharing_violation
    else open_by files handles target number request)))

-- file.create: the first case that applies
abbrev pub create : Files → Table → ℕ → List ℕ → FileRequest → Effect Files
create files handles target name request =
    if not (has_parent files name) then refused files handles path_not_found
    else create_by (found files.names name) files handles target name request
