-- An answer has at most seven extended words.
use Rattle.std.proofs.Common.{◌≤◌, ℕ, Bool, true, false, not, if◌then◌else◌, List, length, Option, None, Some, lit≤, arith}
use Rattle.sb_call.specs.Statuses.{refusal, path_not_found}
use Rattle.sb_call.specs.declared.replies.Answer.{Answer}
use Rattle.sb_services.specs.Events as events
use Rattle.sb_services.specs.declared.event_kinds.EventKind.{EventKind}
use Rattle.sb_services.specs.declared.pipe_modes.PipeForm.{PipeForm}
use Rattle.sb_services.specs.declared.pipe_modes.PipeMode.{PipeMode}
use Rattle.sb_services.specs.declared.event_rows.EventRow.{EventRow}
use Rattle.sb_services.specs.FileCreation as creation
use Rattle.sb_services.specs.Files as files
use Rattle.sb_services.specs.FileRequests.{replaces}
use Rattle.sb_services.specs.declared.file_requests.FileRequest.{FileRequest}
use Rattle.sb_handles.specs.Effects.{Effect}
use Rattle.sb_handles.specs.Tables.{Table, held_by}
use Rattle.sb_handles.specs.declared.objects.Held.{Held}
use Rattle.sb_services.specs.Registry as registry
use Rattle.sb_names.specs.Maps.{found}
use Rattle.sb_services.specs.Pipes as pipes
use Rattle.sb_services.specs.declared.pipe_rows.PipeRow.{PipeRow}
use Rattle.sb_kernel.specs.Laws.{AnswersAreShort}
use Rattle.sb_kernel.specs.Namespaces.{Space, close_by, perform_by, perform_request}
use Rattle.sb_kernel.specs.Requests.{Request, request_of}
use Rattle.sb_kernel.specs.Requests as request

-- an answer with at most seven extended words
abbrev IsShort : Answer → Type 0
IsShort answer = length answer.ext ≤ 7

-- a choice
either : {S : Type 0} (b : Bool) (x y : Effect S) → IsShort x.answer → IsShort y.answer → IsShort (if b then x else y).answer
either true x y e f = e
either false x y e f = f

either_answer : (b : Bool) (x y : Answer) → IsShort x → IsShort y → IsShort (if b then x else y)
either_answer true x y e f = e
either_answer false x y e f = f

either_renamed : (b : Bool) (x y : files.Files × Answer) → IsShort x.1 → IsShort y.1 → IsShort (if b then x else y).1
either_renamed true x y e f = e
either_renamed false x y e f = f

-- files
short_open_by : (fs : files.Files) (handles : Table) (target number : ℕ) (request : FileRequest) → IsShort (creation.open_by fs handles target number request).answer
short_open_by fs handles target number request =
    either (replaces request.disposition)
    (creation.opens (files.with_attributes fs number request.attributes) handles target number request (creation.replaced_as request.disposition))
    (creation.opens fs handles target number request creation.was_opened) (lit≤ tt) (lit≤ tt)

short_create_by : (o : Option ℕ) (fs : files.Files) (handles : Table) (target : ℕ) (name : List ℕ) (request : FileRequest)
    → IsShort (creation.create_by o fs handles target name request).answer
short_create_by None fs handles target name request = grind arith
short_create_by (Some number) fs handles target name request =
    grind (arith, short_open_by fs handles target number request)

short_file : (fs : files.Files) (handles : Table) (target : ℕ) (name : List ℕ) (request : FileRequest)
    → IsShort (creation.create fs handles target name request).answer
short_file fs handles target name request =
    grind (arith, short_create_by (found fs.names name) fs handles target name request)

short_query_by : (o : Option ℕ) (fs : files.Files) → IsShort (files.query_by o fs)
short_query_by None fs = lit≤ tt
short_query_by (Some number) fs = lit≤ tt

short_query : (fs : files.Files) (name : List ℕ) → IsShort (files.query fs name)
short_query fs name = either_answer (not (files.has_parent fs name)) (refusal path_not_found) (files.query_by (found fs.names name) fs) (lit≤ tt) (short_query_by (found fs.names name) fs)

short_rename_by : (o : Option ℕ) (fs : files.Files) (name to : List ℕ) → IsShort (files.rename_by o fs name to).1
short_rename_by None fs name to = lit≤ tt
short_rename_by (Some number) fs name to = grind arith

short_rename : (fs : files.Files) (name to : List ℕ) → IsShort (files.rename fs name to).1
short_rename fs name to =
    either_renamed (not (files.has_parent fs name)) (files.rename_is_refused fs path_not_found) (files.rename_by (found fs.names name) fs name to) (lit≤ tt) (short_rename_by (found fs.names name) fs name to)

-- pipes
short_pipe_by : (o : Option PipeRow) (ps : pipes.Pipes) (handles : Table) (target : ℕ) (name : List ℕ) (mode : PipeMode) (form : PipeForm) (instances : ℕ) → IsShort (pipes.create_by o ps handles target name mode form instances).answer
short_pipe_by None ps handles target name mode form instances = lit≤ tt
short_pipe_by (Some row) ps handles target name mode form instances = grind arith

short_pipe : (ps : pipes.Pipes) (handles : Table) (target : ℕ) (name : List ℕ) (mode : PipeMode) (form : PipeForm) (instances : ℕ) → IsShort (pipes.create ps handles target name mode form instances).answer
short_pipe ps handles target name mode form instances = grind (arith, short_pipe_by (found ps.rows name) ps handles target name mode form instances)

-- keys
short_key_by : (o : Option ℕ) (ks : registry.Keys) (handles : Table) (target : ℕ) (name : List ℕ) (access : ℕ) → IsShort (registry.create_by o ks handles target name access).answer
short_key_by None ks handles target name access = lit≤ tt
short_key_by (Some number) ks handles target name access = lit≤ tt

short_key : (ks : registry.Keys) (handles : Table) (target : ℕ) (name : List ℕ) (access : ℕ) → IsShort (registry.create ks handles target name access).answer
short_key ks handles target name access = grind (arith, short_key_by (found ks.names name) ks handles target name access)

short_key_open_by : (o : Option ℕ) (ks : registry.Keys) (handles : Table) (target access : ℕ) → IsShort (registry.open_by o ks handles target access).answer
short_key_open_by None ks handles target access = lit≤ tt
short_key_open_by (Some number) ks handles target access = lit≤ tt

short_key_open : (ks : registry.Keys) (handles : Table) (target : ℕ) (name : List ℕ) (access : ℕ) → IsShort (registry.open_by_name ks handles target name access).answer
short_key_open ks handles target name access = grind (arith, short_key_open_by (found ks.names name) ks handles target access)

-- events
short_event_by : (o : Option EventRow) (es : events.Events) (handles : Table) (target : ℕ) (name : List ℕ) (kind : EventKind) (initial : Bool) → IsShort (events.create_by o es handles target name kind initial).answer
short_event_by None es handles target name kind initial = lit≤ tt
short_event_by (Some row) es handles target name kind initial = grind arith

short_event : (es : events.Events) (handles : Table) (target : ℕ) (name : List ℕ) (kind : EventKind) (initial : Bool) → IsShort (events.create es handles target name kind initial).answer
short_event es handles target name kind initial = grind (arith, short_event_by (found es.rows name) es handles target name kind initial)

short_event_open : (o : Option EventRow) (es : events.Events) (handles : Table) (target access : ℕ) → IsShort (events.open_by o es handles target access).answer
short_event_open None es handles target access = lit≤ tt
short_event_open (Some row) es handles target access = lit≤ tt

-- handles
short_close : (o : Option Held) (ns : Space) (target handle : ℕ) → IsShort (close_by o ns target handle).answer
short_close None ns target handle = lit≤ tt
short_close (Some held) ns target handle = lit≤ tt

short_request : (ns : Space) (target : ℕ) (r : Request) → IsShort (perform_request ns target r).answer
short_request ns target (request.Ping cookie text) = lit≤ tt
short_request ns target (request.FileCreate name wanted) = short_file ns.files ns.handles target name wanted
short_request ns target (request.FileQuery name) = short_query ns.files name
short_request ns target (request.FileRename name to) = short_rename ns.files name to
short_request ns target (request.PipeCreate name mode form instances) = short_pipe ns.pipes ns.handles target name mode form instances
short_request ns target (request.KeyCreate name access) = short_key ns.keys ns.handles target name access.0
short_request ns target (request.KeyOpen name access) = short_key_open ns.keys ns.handles target name access.0
short_request ns target (request.EventCreate name kind initial) = short_event ns.events ns.handles target name kind initial
short_request ns target (request.EventOpen name access) = short_event_open (found ns.events.rows name) ns.events ns.handles target access.0
short_request ns target (request.HandleClose handle) = short_close (held_by ns.handles target handle) ns target handle

pub answers_are_short : AnswersAreShort
answers_are_short ns target tag args = by (request_of tag args)
  where
    by : (o : Option Request) → IsShort (perform_by o ns target).answer
    by None = lit≤ tt
    by (Some r) = short_request ns target r
