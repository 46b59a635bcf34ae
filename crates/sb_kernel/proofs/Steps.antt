-- What each call of a service does to the handles: nothing, or it grants one on an object of its own service.
use Rattle.std.proofs.Common.{◌≡◌, ℕ, ◌+◌, ◌≤◌, Bool, true, false, if◌then◌else◌, List, [], ◌∷◌, length, Option, None, Some, refl, arith, ◌⊎◌, inl, inr, ◌&&◌, ◌||◌, not, ◌==◌}
use Rattle.std.proofs.lemmas.List.{length-set, length-append}
use Rattle.sb_handles.specs.Effects.{Effect}
use Rattle.sb_handles.specs.Tables.{Table, with_handle}
use Rattle.sb_handles.specs.declared.objects.Held.{Held}
use Rattle.sb_handles.specs.declared.objects.Service.{Service}
use Rattle.sb_handles.specs.declared.objects.Service.TheVariants as service
use Rattle.sb_names.specs.Maps.{found}
use Rattle.sb_names.specs.Trees.{has_parent}
use Rattle.sb_services.specs.FileCreation as creation
use Rattle.sb_services.specs.Files as files
use Rattle.sb_services.specs.FileRequests.{needs_free_name, needs_object, replaces, wants_directory, wants_file}
use Rattle.sb_services.specs.declared.file_requests.FileRequest.{FileRequest}
use Rattle.sb_services.specs.Pipes as pipes
use Rattle.sb_services.specs.declared.pipe_rows.PipeRow.{PipeRow}
use Rattle.sb_services.specs.Registry as registry
use Rattle.sb_services.specs.Events as events
use Rattle.sb_services.specs.EventKinds.{kind_number}
use Rattle.sb_services.specs.declared.event_kinds.EventKind.{EventKind}
use Rattle.sb_services.specs.declared.pipe_modes.PipeForm.{PipeForm}
use Rattle.sb_services.specs.declared.pipe_modes.PipeMode.{PipeMode}
use Rattle.sb_services.specs.declared.event_rows.EventRow.{EventRow}

-- a handle more on an object of a service, of which at most one was made
pub record IsGrant (kind : Service) (made : ℕ) (handles : Table) (more : ℕ) (after : Table) : Type 0 where
  pub target : ℕ
  pub held : Held
  pub kind_is : held.object.service ≡ kind
  pub one : more ≤ made + 1
  pub handles_are : after ≡ with_handle handles target held

-- the handles stay, with as many objects, or there is one handle more
abbrev pub IsStep : Service → ℕ → Table → ℕ → Table → Type 0
IsStep kind made handles more after = ((more ≡ made) × (after ≡ handles)) ⊎ IsGrant kind made handles more after

module _ {S : Type 0} (made_of : S → ℕ) (kind : Service) (service : S) (handles : Table) where
  abbrev IsStepOf : Effect S → Type 0
  IsStepOf e = IsStep kind (made_of service) handles (made_of e.service) e.handles

  step_if : (b : Bool) (x y : Effect S) → IsStepOf x → IsStepOf y → IsStepOf (if b then x else y)
  step_if true x y h k = h
  step_if false x y h k = k

  refused_step : (e : Effect S) → made_of e.service ≡ made_of service → e.handles ≡ handles → IsStepOf e
  refused_step e m h = inl (m, h)

abbrev made_files : files.Files → ℕ
made_files f = length f.objects

-- files

opens_step : (before after : files.Files) (handles : Table) (target number : ℕ) (request : FileRequest) (result : ℕ)
    → length after.objects ≤ length before.objects + 1
    → IsStepOf made_files service.File before handles (creation.opens after handles target number request result)
opens_step before after handles target number request result h =
    inr (record { target = target; held = creation.on_file number request; kind_is = refl; one = h; handles_are = refl })

same_count : (f : files.Files) (number attributes : ℕ) → length (files.with_attributes f number attributes).objects ≤ length f.objects + 1
same_count f number attributes = rw (length-set f.objects _ _) (omega arith)

open_by_step : (f : files.Files) (handles : Table) (target number : ℕ) (request : FileRequest)
    → IsStepOf made_files service.File f handles (creation.open_by f handles target number request)
open_by_step f handles target number request =
    step_if made_files service.File f handles (replaces request.disposition) _ _
    (opens_step f (files.with_attributes f number request.attributes) handles target number request (creation.replaced_as request.disposition) (same_count f number request.attributes))
    (opens_step f f handles target number request creation.was_opened (omega arith))

create_by_step : (o : Option ℕ) (f : files.Files) (handles : Table) (target : ℕ) (name : List ℕ) (request : FileRequest)
    → IsStepOf made_files service.File f handles (creation.create_by o f handles target name request)
create_by_step None f handles target name request =
    step_if made_files service.File f handles (needs_object request.disposition) _ _
    (inl (refl, refl))
    (opens_step f (files.with_object f name (creation.object_asked request)) handles target (length f.objects + 1) request creation.was_created
    (rw (length-append f.objects (creation.object_asked request ∷ [])) (omega arith)))
create_by_step (Some number) f handles target name request =
    step_if made_files service.File f handles (needs_free_name request.disposition) _ _ (inl (refl, refl))
    (step_if made_files service.File f handles (not (files.is_directory (files.object_of f number).kind) && wants_directory request) _ _ (inl (refl, refl))
    (step_if made_files service.File f handles (files.is_directory (files.object_of f number).kind && (wants_file request || replaces request.disposition)) _ _ (inl (refl, refl))
    (step_if made_files service.File f handles (files.is_shared_out f number request.access.0 request.sharing.0) _ _ (inl (refl, refl))
    (open_by_step f handles target number request))))

pub file_step : (f : files.Files) (handles : Table) (target : ℕ) (name : List ℕ) (request : FileRequest)
    → IsStepOf made_files service.File f handles (creation.create f handles target name request)
file_step f handles target name request =
    step_if made_files service.File f handles (not (files.has_parent f name)) _ _ (inl (refl, refl))
    (create_by_step (found f.names name) f handles target name request)

-- pipes

pipe_by_step : (o : Option PipeRow) (p : pipes.Pipes) (handles : Table) (target : ℕ) (name : List ℕ) (mode : PipeMode) (form : PipeForm) (instances : ℕ)
    → IsStepOf (λ q. q.made) service.Pipe p handles (pipes.create_by o p handles target name mode form instances)
pipe_by_step None p handles target name mode form instances =
    inr (record { target = target; held = pipes.on_pipe (p.made + 1); kind_is = refl; one = omega arith; handles_are = refl })
pipe_by_step (Some row) p handles target name mode form instances =
    step_if (λ q. q.made) service.Pipe p handles (not (pipes.is_alike row mode form instances)) _ _ (inl (refl, refl))
    (step_if (λ q. q.made) service.Pipe p handles (row.handles == row.instances) _ _ (inl (refl, refl))
    (inr (record { target = target; held = pipes.on_pipe row.number; kind_is = refl; one = omega arith; handles_are = refl })))

pub pipe_step : (p : pipes.Pipes) (handles : Table) (target : ℕ) (name : List ℕ) (mode : PipeMode) (form : PipeForm) (instances : ℕ)
    → IsStepOf (λ q. q.made) service.Pipe p handles (pipes.create p handles target name mode form instances)
pipe_step p handles target name mode form instances =
    step_if (λ q. q.made) service.Pipe p handles (pipes.is_invalid instances) _ _ (inl (refl, refl))
    (pipe_by_step (found p.rows name) p handles target name mode form instances)

-- keys

key_by_step : (o : Option ℕ) (k : registry.Keys) (handles : Table) (target : ℕ) (name : List ℕ) (access : ℕ)
    → IsStepOf (λ q. q.made) service.Key k handles (registry.create_by o k handles target name access)
key_by_step None k handles target name access =
    inr (record { target = target; held = registry.on_key (k.made + 1) access; kind_is = refl; one = omega arith; handles_are = refl })
key_by_step (Some number) k handles target name access =
    inr (record { target = target; held = registry.on_key number access; kind_is = refl; one = omega arith; handles_are = refl })

pub key_step : (k : registry.Keys) (handles : Table) (target : ℕ) (name : List ℕ) (access : ℕ)
    → IsStepOf (λ q. q.made) service.Key k handles (registry.create k handles target name access)
key_step k handles target name access =
    step_if (λ q. q.made) service.Key k handles (not (has_parent k.names name)) _ _ (inl (refl, refl))
    (key_by_step (found k.names name) k handles target name access)

key_open_by_step : (o : Option ℕ) (k : registry.Keys) (handles : Table) (target access : ℕ)
    → IsStepOf (λ q. q.made) service.Key k handles (registry.open_by o k handles target access)
key_open_by_step None k handles target access = inl (refl, refl)
key_open_by_step (Some number) k handles target access =
    inr (record { target = target; held = registry.on_key number access; kind_is = refl; one = omega arith; handles_are = refl })

pub key_open_step : (k : registry.Keys) (handles : Table) (target : ℕ) (name : List ℕ) (access : ℕ)
    → IsStepOf (λ q. q.made) service.Key k handles (registry.open_by_name k handles target name access)
key_open_step k handles target name access =
    step_if (λ q. q.made) service.Key k handles (not (has_parent k.names name)) _ _ (inl (refl, refl))
    (key_open_by_step (found k.names name) k handles target access)

-- events

event_by_step : (o : Option EventRow) (v : events.Events) (handles : Table) (target : ℕ) (name : List ℕ) (kind : EventKind) (initial : Bool)
    → IsStepOf (λ q. q.made) service.Event v handles (events.create_by o v handles target name kind initial)
event_by_step None v handles target name kind initial =
    inr (record { target = target; held = events.on_event (v.made + 1) 0; kind_is = refl; one = omega arith; handles_are = refl })
event_by_step (Some row) v handles target name kind initial =
    step_if (λ q. q.made) service.Event v handles (not (kind_number row.kind == kind_number kind)) _ _ (inl (refl, refl))
    (inr (record { target = target; held = events.on_event row.number 0; kind_is = refl; one = omega arith; handles_are = refl }))

pub event_step : (v : events.Events) (handles : Table) (target : ℕ) (name : List ℕ) (kind : EventKind) (initial : Bool)
    → IsStepOf (λ q. q.made) service.Event v handles (events.create v handles target name kind initial)
event_step v handles target name kind initial =
    event_by_step (found v.rows name) v handles target name kind initial

pub event_open_step : (o : Option EventRow) (v : events.Events) (handles : Table) (target access : ℕ)
    → IsStepOf (λ q. q.made) service.Event v handles (events.open_by o v handles target access)
event_open_step None v handles target access = inl (refl, refl)
event_open_step (Some row) v handles target access =
    inr (record { target = target; held = events.on_event row.number access; kind_is = refl; one = omega arith; handles_are = refl })
