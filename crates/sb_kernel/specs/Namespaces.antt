-- The namespace, and what a call does to it.
use Rattle.std.specs.Prelude.{ℕ, Bool, true, false, ◌&&◌, List, [], ◌∷◌, length, Option, None, Some}
use Rattle.sb_call.specs.Statuses.{invalid_handle, invalid_parameter, refusal, showing}
use Rattle.sb_call.specs.declared.tags.CallTag.{CallTag}
use Rattle.sb_call.specs.declared.arguments.Arg.{Arg}
use Rattle.sb_call.specs.declared.replies.Answer.{Answer}
use Rattle.sb_handles.specs.Effects as effects
use Rattle.sb_handles.specs.Effects.{is_done}
use Rattle.sb_handles.specs.Tables.{Table, no_handles, held_by, without_handle}
use Rattle.sb_handles.specs.declared.objects.Held.{Held}
use Rattle.sb_handles.specs.declared.objects.Service.{Service}
use Rattle.sb_handles.specs.declared.objects.Service.TheVariants as service
use Rattle.sb_services.specs.FileCreation as creation
use Rattle.sb_services.specs.Files as files
use Rattle.sb_services.specs.Pipes as pipes
use Rattle.sb_services.specs.Registry as registry
use Rattle.sb_services.specs.Events as events
use Rattle.sb_kernel.specs.Requests.{Request, request_of}
use Rattle.sb_kernel.specs.Requests as request

-- the files, pipes, keys and events with their counts of objects ever made, and the handles with their count ever granted
pub record Space : Type 0 where
  pub files : files.Files
  pub pipes : pipes.Pipes
  pub keys : registry.Keys
  pub events : events.Events
  pub handles : Table

-- a namespace, and the answer of the call that made it so
pub record Effect : Type 0 where
  pub space : Space
  pub answer : Answer

-- nothing was made, and nothing granted
abbrev pub empty_space : Space
empty_space = record { files = files.no_files; pipes = pipes.no_pipes; keys = registry.no_keys; events = events.no_events; handles = no_handles }

-- a call is refused, or answered by what is there, and nothing is changed
abbrev pub answered_with : Space → Answer → Effect
answered_with ns answer = record { space = ns; answer = answer }

-- what a service did
abbrev pub on_files : Space → effects.Effect files.Files → Effect
on_files ns e = record { space = record ns { files = e.service; handles = e.handles }; answer = e.answer }

abbrev pub on_pipes : Space → effects.Effect pipes.Pipes → Effect
on_pipes ns e = record { space = record ns { pipes = e.service; handles = e.handles }; answer = e.answer }

abbrev pub on_keys : Space → effects.Effect registry.Keys → Effect
on_keys ns e = record { space = record ns { keys = e.service; handles = e.handles }; answer = e.answer }

abbrev pub on_events : Space → effects.Effect events.Events → Effect
on_events ns e = record { space = record ns { events = e.service; handles = e.handles }; answer = e.answer }

-- a rename has no part in handles
abbrev pub renames : Space → files.Files × Answer → Effect
renames ns renamed = record { space = record ns { files = renamed.0 }; answer = renamed.1 }

-- what a closed handle leaves of its object: a file is no longer shared by it, and a pipe has one handle fewer
abbrev pub left_by : Service → Space → ℕ → ℕ → Space
left_by service.File ns number handle = record ns { files = files.closed ns.files handle }
left_by service.Pipe ns number handle = record ns { pipes = pipes.closed ns.pipes number }
left_by service.Key ns number handle = ns
left_by service.Event ns number handle = ns

-- handle.close, by what the target holds under the number
abbrev pub close_by : Option Held → Space → ℕ → ℕ → Effect
close_by None ns target handle = answered_with ns (refusal invalid_handle)
close_by (Some held) ns target handle =
    answered_with (left_by held.object.service (record ns { handles = without_handle ns.handles target handle }) held.object.number handle) (showing [])

-- what a request of a target does. A ping answers its cookie, and how many units its text has
abbrev pub perform_request : Space → ℕ → Request → Effect
perform_request ns target (request.Ping cookie text) = answered_with ns (showing (cookie ∷ length text ∷ []))
perform_request ns target (request.FileCreate name wanted) = on_files ns (creation.create ns.files ns.handles target name wanted)
perform_request ns target (request.FileQuery name) = answered_with ns (files.query ns.files name)
perform_request ns target (request.FileRename name to) = renames ns (files.rename ns.files name to)
perform_request ns target (request.PipeCreate name mode form instances) =
    on_pipes ns (pipes.create ns.pipes ns.handles target name mode form instances)
perform_request ns target (request.KeyCreate name access) = on_keys ns (registry.create ns.keys ns.handles target name access.0)
perform_request ns target (request.KeyOpen name access) = on_keys ns (registry.open_by_name ns.keys ns.handles target name access.0)
perform_request ns target (request.EventCreate name kind initial) = on_events ns (events.create ns.events ns.handles target name kind initial)
perform_request ns target (request.EventOpen name access) = on_events ns (events.open_by_name ns.events ns.handles target name access.0)
perform_request ns target (request.HandleClose handle) = close_by (held_by ns.handles target handle) ns target handle

-- a call without a valid request is refused
abbrev pub perform_by : Option Request → Space → ℕ → Effect
perform_by None ns target = answered_with ns (refusal invalid_parameter)
perform_by (Some request) ns target = perform_request ns target request

-- what a call of a target does
abbrev pub perform : Space → ℕ → CallTag → List Arg → Effect
perform ns target tag args = perform_by (request_of tag args) ns target

-- what is asked for may need memory: a handle is granted, maybe on a new object, or names are moved
abbrev pub may_allocate : Request → Bool
may_allocate (request.Ping cookie text) = false
may_allocate (request.FileQuery name) = false
may_allocate (request.HandleClose handle) = false
may_allocate _ = true

abbrev pub takes_memory_by : Option Request → Space → ℕ → Bool
takes_memory_by None ns target = false
takes_memory_by (Some request) ns target = may_allocate request && is_done (perform_request ns target request).answer.status

-- a call takes memory: it grants a handle or moves names, and is not refused
abbrev pub takes_memory : Space → ℕ → CallTag → List Arg → Bool
takes_memory ns target tag args = takes_memory_by (request_of tag args) ns target
