-- What a handle table holds of the objects of one service.
use Rattle.std.specs.Prelude.{◌≡◌, ℕ, Bool, true, false, ◌&&◌, ◌==◌, Option, None, Some, if◌then◌else◌}
use Rattle.std.specs.List.{find, count_by}
use Rattle.sb_handles.specs.Shares.{Shares, share_on}
use Rattle.sb_handles.specs.Tables.{Table}
use Rattle.sb_handles.specs.declared.objects.OpenHandle.{OpenHandle}
use Rattle.sb_handles.specs.declared.objects.Service.{Service}
use Rattle.sb_handles.specs.declared.objects.Service.TheVariants as service
use Rattle.sb_handles.specs.declared.objects.Share.{Share}

abbrev pub is_file : Service → Bool
is_file service.File = true
is_file _ = false

abbrev pub is_pipe : Service → Bool
is_pipe service.Pipe = true
is_pipe _ = false

-- access and sharing of a handle, if it is open on this file or directory
abbrev pub file_share_by : ℕ → Option OpenHandle → Option Share
file_share_by object None = None
file_share_by object (Some handle) =
    if is_file handle.held.object.service && handle.held.object.number == object
    then Some (record { access = handle.held.access; sharing = handle.held.sharing })
    else None

-- access and sharing with which the handle of a number is open on a file or directory
abbrev pub file_share : Table → ℕ → ℕ → Option Share
file_share table object number = file_share_by object (find (λ handle. handle.number == number) table.handles)

-- the shares are those of the open handles on files and directories
abbrev pub AgreesOnFiles : Shares → Table → Type 0
AgreesOnFiles shares table = (object number : ℕ) → share_on shares object number ≡ file_share table object number

-- how many open handles a pipe has
abbrev pub pipe_handles : Table → ℕ → ℕ
pipe_handles table pipe =
    count_by (λ handle. is_pipe handle.held.object.service && handle.held.object.number == pipe) table.handles
