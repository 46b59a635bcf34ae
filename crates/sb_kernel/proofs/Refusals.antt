-- Calls that are refused change nothing.
use Rattle.std.proofs.Common.{◌≡◌, ℕ, Bool, true, false, ◌||◌, Option, None, Some, refl, sym, subst, ap}
use Rattle.std.proofs.lemmas.Bool.{false≢true}
use Rattle.sb_call.specs.Statuses.{success}
use Rattle.sb_services.specs.Events as events
use Rattle.sb_services.specs.EventLaws as event_laws
use Rattle.sb_services.specs.Files as files
use Rattle.sb_services.specs.FileLaws as file_laws
use Rattle.sb_handles.specs.Effects.{is_done}
use Rattle.sb_handles.specs.Tables.{Table, held_by}
use Rattle.sb_handles.specs.declared.objects.Held.{Held}
use Rattle.sb_services.specs.KeyLaws as key_laws
use Rattle.sb_services.specs.Registry as registry
use Rattle.sb_services.specs.PipeLaws as pipe_laws
use Rattle.sb_services.specs.Pipes as pipes
use Rattle.sb_kernel.specs.Laws.{RefusedCallsChangeNothing, UnheldClosesChangeNothing}
use Rattle.sb_kernel.specs.Namespaces.{Space, close_by, perform_by, perform_request}
use Rattle.sb_kernel.specs.Requests.{Request, request_of}
use Rattle.sb_kernel.specs.Requests as request

-- neither of two tests holds if their `or` does not
or_left : (a b : Bool) → a || b ≡ false → a ≡ false
or_left true b h = h
or_left false b h = refl

-- a call that was not done did not succeed
not_success : (status : ℕ) → is_done status ≡ false → status ≡ success → ⊥
not_success status h e = absurd (false≢true (sym (subst (λ s. is_done s ≡ false) e h)))

-- a service that is as it was, with handles as they were, leaves the namespace equal

files_same : (ns : Space) (files : files.Files) (handles : Table) → (files ≡ ns.files) × (handles ≡ ns.handles) → record ns { files = files; handles = handles } ≡ ns
files_same ns files handles h = rw (h.0, h.1) refl

pipes_same : (ns : Space) (pipes : pipes.Pipes) (handles : Table) → (pipes ≡ ns.pipes) × (handles ≡ ns.handles) → record ns { pipes = pipes; handles = handles } ≡ ns
pipes_same ns pipes handles h = rw (h.0, h.1) refl

keys_same : (ns : Space) (keys : registry.Keys) (handles : Table) → (keys ≡ ns.keys) × (handles ≡ ns.handles) → record ns { keys = keys; handles = handles } ≡ ns
keys_same ns keys handles h = rw (h.0, h.1) refl

events_same : (ns : Space) (events : events.Events) (handles : Table) → (events ≡ ns.events) × (handles ≡ ns.handles) → record ns { events = events; handles = handles } ≡ ns
events_same ns events handles h = rw (h.0, h.1) refl

renamed_same : (ns : Space) (files : files.Files) → files ≡ ns.files → record ns { files = files } ≡ ns
renamed_same ns files h = rw h refl

-- a number under which the target holds nothing
pub unheld_closes_change_nothing : UnheldClosesChangeNothing
unheld_closes_change_nothing ns target handle h = ap (λ held. close_by held ns target handle) h

-- what the target holds can be closed, so only a number under which it holds nothing is refused
close_same : (held : Option Held) (ns : Space) (target handle : ℕ) → is_done (close_by held ns target handle).answer.status ≡ false → (close_by held ns target handle).space ≡ ns
close_same None ns target handle h = refl
close_same (Some held) ns target handle h = absurd (false≢true (sym h))

-- from the laws of the services: each call, by what it asks for
module _ (files_refused : file_laws.RefusalsChangeNothing) (renames_refused : file_laws.RefusedRenamesChangeNothing)
    (pipes_refused : pipe_laws.RefusalsChangeNothing)
    (key_creates_refused : key_laws.RefusedCreatesChangeNothing) (key_opens_refused : key_laws.RefusedOpensChangeNothing)
    (event_creates_refused : event_laws.RefusedCreatesChangeNothing) (event_opens_refused : event_laws.RefusedOpensChangeNothing) where
  request_same : (ns : Space) (target : ℕ) (r : Request) → is_done (perform_request ns target r).answer.status ≡ false → (perform_request ns target r).space ≡ ns
  request_same ns target (request.Ping cookie text) h = refl
  request_same ns target (request.FileCreate name wanted) h = files_same ns _ _ (files_refused ns.files ns.handles target name wanted (not_success _ h))
  request_same ns target (request.FileQuery name) h = refl
  request_same ns target (request.FileRename name to) h = renamed_same ns _ (renames_refused ns.files name to (not_success _ h))
  request_same ns target (request.PipeCreate name mode form instances) h =
      pipes_same ns _ _ (pipes_refused ns.pipes ns.handles target name mode form instances (not_success _ h))
  request_same ns target (request.KeyCreate name access) h = keys_same ns _ _ (key_creates_refused ns.keys ns.handles target name access.0 (or_left _ _ h))
  request_same ns target (request.KeyOpen name access) h = keys_same ns _ _ (key_opens_refused ns.keys ns.handles target name access.0 (or_left _ _ h))
  request_same ns target (request.EventCreate name kind initial) h = events_same ns _ _ (event_creates_refused ns.events ns.handles target name kind initial h)
  request_same ns target (request.EventOpen name access) h = events_same ns _ _ (event_opens_refused ns.events ns.handles target name access.0 h)
  request_same ns target (request.HandleClose handle) h = close_same (held_by ns.handles target handle) ns target handle h

  pub refused_calls_change_nothing : RefusedCallsChangeNothing
  refused_calls_change_nothing ns target tag args h = by (request_of tag args) h
    where
      by : (o : Option Request) → is_done (perform_by o ns target).answer.status ≡ false → (perform_by o ns target).space ≡ ns
      by None h = refl
      by (Some r) h = request_same ns target r h
