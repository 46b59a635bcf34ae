-- What a call asks for, by its tag and its arguments.
use Rattle.std.specs.Prelude.{◌^◌, ◌&&◌, ℕ, Bool, true, nat_lt, List, [], Option, None, Some, option_map, if◌then◌else◌}
use Rattle.sb_base.specs.Names.{is_name_of}
use Rattle.sb_call.specs.Arguments.{arg_at}
use Rattle.sb_call.specs.declared.arguments.Arg.{Arg}
use Rattle.sb_call.specs.declared.arguments.Arg.TheVariants.{Num, Str}
use Rattle.sb_call.specs.declared.tags.CallTag.{CallTag}
use Rattle.sb_call.specs.declared.tags.CallTag.TheVariants as tag
use Rattle.sb_handles.specs.Masks.{access_of, sharing_of}
use Rattle.sb_handles.specs.declared.masks.Access.{Access}
use Rattle.sb_services.specs.FileRequests.{create_request, open_request}
use Rattle.sb_services.specs.declared.file_requests.FileRequest.{FileRequest}
use Rattle.sb_services.specs.PipeModes.{form_of, mode_of}
use Rattle.sb_services.specs.declared.pipe_modes.PipeForm.{PipeForm}
use Rattle.sb_services.specs.declared.pipe_modes.PipeMode.{PipeMode}
use Rattle.sb_services.specs.EventKinds.{is_invalid, kind_from, state_from}
use Rattle.sb_services.specs.declared.event_kinds.EventKind.{EventKind}
use Rattle.sb_kernel.specs.declared.requests.Request.TheVariants as borrowed
use Rattle.sb_kernel.specs.declared.requests.Request as declared

-- what a call asks for
pub data Request : Type 0 where
  Ping : ℕ → List ℕ → Request
  FileCreate : List ℕ → FileRequest → Request
  FileQuery : List ℕ → Request
  FileRename : List ℕ → List ℕ → Request
  PipeCreate : List ℕ → PipeMode → PipeForm → ℕ → Request
  KeyCreate : List ℕ → Access → Request
  KeyOpen : List ℕ → Access → Request
  EventCreate : List ℕ → EventKind → Bool → Request
  EventOpen : List ℕ → Access → Request
  HandleClose : ℕ → Request

-- pipe.create, if mode and form are there
abbrev pub pipe_create : List ℕ → Option PipeMode → Option PipeForm → ℕ → Option Request
pipe_create name (Some mode) (Some form) instances = Some (PipeCreate name mode form instances)
pipe_create name (Some mode) None instances = None
pipe_create name None form instances = None

-- the number of an argument, 0 of a string; and the string, empty of a number
abbrev pub number_in : Arg → ℕ
number_in (Num number) = number
number_in (Str text) = 0

abbrev pub units_in : Arg → List ℕ
units_in (Num number) = []
units_in (Str text) = text

-- the number and the string at a place of the arguments
abbrev pub number_at : List Arg → ℕ → ℕ
number_at args place = number_in (arg_at args place)

abbrev pub units_at : List Arg → ℕ → List ℕ
units_at args place = units_in (arg_at args place)

-- event.create, if kind and state are 0 or 1
abbrev pub event_create : List ℕ → ℕ → ℕ → Option Request
event_create name kind initial = if is_invalid kind initial then None else Some (EventCreate name (kind_from kind) (state_from initial))

-- what a call with arguments that fit asks for: none if some of them are out of range or exclude each other.
-- file.open is a file.create of what is there
abbrev pub request_of : CallTag → List Arg → Option Request
request_of tag.Ping args = Some (Ping (number_at args 0) (units_at args 1))
request_of tag.FileCreate args =
    option_map (FileCreate (units_at args 0))
    (create_request (number_at args 1) (access_of (number_at args 2)) (sharing_of (number_at args 3)) (number_at args 4) (number_at args 5))
request_of tag.FileOpen args =
    option_map (FileCreate (units_at args 0)) (open_request (access_of (number_at args 1)) (sharing_of (number_at args 2)) (number_at args 3))
request_of tag.FileQuery args = Some (FileQuery (units_at args 0))
request_of tag.FileRename args = Some (FileRename (units_at args 0) (units_at args 1))
request_of tag.PipeCreate args = pipe_create (units_at args 0) (mode_of (number_at args 1)) (form_of (number_at args 2)) (number_at args 3)
request_of tag.KeyCreate args = Some (KeyCreate (units_at args 0) (access_of (number_at args 1)))
request_of tag.KeyOpen args = Some (KeyOpen (units_at args 0) (access_of (number_at args 1)))
request_of tag.EventCreate args = event_create (units_at args 0) (number_at args 1) (number_at args 2)
request_of tag.EventOpen args = Some (EventOpen (units_at args 0) (access_of (number_at args 1)))
request_of tag.HandleClose args = Some (HandleClose (number_at args 0))

-- an access and its sharing are below 2^32
abbrev pub is_narrow : FileRequest → Bool
is_narrow request = nat_lt request.access.0 (2 ^ 32) && nat_lt request.sharing.0 (2 ^ 32)

-- each name of a request is a name, and each access and sharing is below 2^32
abbrev pub is_proper : Request → Bool
is_proper (Ping cookie text) = true
is_proper (FileCreate name request) = is_name_of name && is_narrow request
is_proper (FileQuery name) = is_name_of name
is_proper (FileRename name to) = is_name_of name && is_name_of to
is_proper (PipeCreate name mode form instances) = is_name_of name
is_proper (KeyCreate name access) = is_name_of name && nat_lt access.0 (2 ^ 32)
is_proper (KeyOpen name access) = is_name_of name && nat_lt access.0 (2 ^ 32)
is_proper (EventCreate name kind initial) = is_name_of name
is_proper (EventOpen name access) = is_name_of name && nat_lt access.0 (2 ^ 32)
is_proper (HandleClose handle) = true

-- the request that the code holds, which borrows its strings
abbrev pub meant : declared.Request → Request
meant (borrowed.Ping cookie text) = Ping cookie text.now
meant (borrowed.FileCreate name request) = FileCreate name.now request
meant (borrowed.FileQuery name) = FileQuery name.now
meant (borrowed.FileRename name to) = FileRename name.now to.now
meant (borrowed.PipeCreate name mode form instances) = PipeCreate name.now mode form instances
meant (borrowed.KeyCreate name access) = KeyCreate name.now access
meant (borrowed.KeyOpen name access) = KeyOpen name.now access
meant (borrowed.EventCreate name kind initial) = EventCreate name.now kind initial
meant (borrowed.EventOpen name access) = EventOpen name.now access
meant (borrowed.HandleClose handle) = HandleClose handle
