-- What a file.create asks for.
use Rattle.std.specs.Prelude.{ℕ, Bool, true, false, ◌&&◌, ◌||◌, ◌==◌, nat_lt, Option, None, Some, if◌then◌else◌}
use Rattle.sb_call.specs.Statuses.{meets}
use Rattle.sb_handles.specs.declared.masks.Access.{Access}
use Rattle.sb_handles.specs.declared.masks.Sharing.{Sharing}
use Rattle.sb_services.specs.declared.file_requests.Disposition.{Disposition}
use Rattle.sb_services.specs.declared.file_requests.Disposition.TheVariants as disposition
use Rattle.sb_services.specs.declared.file_requests.FileOptions.{FileOptions}
use Rattle.sb_services.specs.declared.file_requests.FileRequest.{FileRequest}

-- the dispositions have the numbers 0 to 5
abbrev pub disposition_of : ℕ → Option Disposition
disposition_of number =
    if number == 0 then Some disposition.Supersede
    else (if number == 1 then Some disposition.Open
    else (if number == 2 then Some disposition.Create
    else (if number == 3 then Some disposition.OpenOrCreate
    else (if number == 4 then Some disposition.Overwrite
    else (if number == 5 then Some disposition.OverwriteOrCreate else None)))))

-- the name must be there
abbrev pub needs_object : Disposition → Bool
needs_object disposition.Open = true
needs_object disposition.Overwrite = true
needs_object _ = false

-- the name must be free
abbrev pub needs_free_name : Disposition → Bool
needs_free_name disposition.Create = true
needs_free_name _ = false

-- the content of a file that is there is replaced, which no directory allows
abbrev pub replaces : Disposition → Bool
replaces disposition.Supersede = true
replaces disposition.Overwrite = true
replaces disposition.OverwriteOrCreate = true
replaces _ = false

-- the option for directories alone
abbrev pub directory_option : ℕ
directory_option = 1

-- the option for files alone
abbrev pub non_directory_option : ℕ
non_directory_option = 0x40

-- the options with these bits
abbrev pub options_of : ℕ → FileOptions
options_of bits = record { 0 = bits }

-- it asks for a directory, or else for a file
abbrev pub wants_directory : FileRequest → Bool
wants_directory request = meets request.options.0 directory_option

-- it asks for a file alone
abbrev pub wants_file : FileRequest → Bool
wants_file request = meets request.options.0 non_directory_option

-- the sharing is out of range, both options are set, or a directory is asked for and its content is to be replaced
abbrev pub is_invalid : FileRequest → Bool
is_invalid request =
    nat_lt 7 request.sharing.0 || (wants_directory request && wants_file request) || (wants_directory request && replaces request.disposition)

-- a request, if it is valid
abbrev pub valid_request : FileRequest → Option FileRequest
valid_request request = if is_invalid request then None else Some request

-- the request with a disposition, if there is one
abbrev pub request_by : ℕ → Access → Sharing → Option Disposition → FileOptions → Option FileRequest
request_by attributes access sharing None options = None
request_by attributes access sharing (Some disposition) options =
    valid_request (record { attributes = attributes; access = access; sharing = sharing; disposition = disposition; options = options })

-- what a file.create asks for: none if its disposition is not 0 to 5, or the request is invalid
abbrev pub create_request : ℕ → Access → Sharing → ℕ → ℕ → Option FileRequest
create_request attributes access sharing disposition options =
    request_by attributes access sharing (disposition_of disposition) (options_of options)

-- what a file.open asks for: to open what is there, with attributes 0. None if the request is invalid
abbrev pub open_request : Access → Sharing → ℕ → Option FileRequest
open_request access sharing options = request_by 0 access sharing (Some disposition.Open) (options_of options)
