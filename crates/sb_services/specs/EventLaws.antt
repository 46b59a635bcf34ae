-- Laws of events.
use Rattle.std.specs.Prelude.{◌≡◌, ◌+◌, ℕ, Bool, true, false, ◌&&◌, ◌==◌, List, Some, if◌then◌else◌}
use Rattle.std.specs.Map.{lookup}
use Rattle.sb_call.specs.Statuses.{success}
use Rattle.sb_handles.specs.Effects.{Effect, is_done}
use Rattle.sb_handles.specs.Tables.{Table, with_handle}
use Rattle.sb_names.specs.Keys.{key_of}
use Rattle.sb_names.specs.Maps.{is_key, found}
use Rattle.sb_services.specs.Events.{Events, create, on_event, open_by_name}
use Rattle.sb_services.specs.declared.event_kinds.EventKind.{EventKind}
use Rattle.sb_services.specs.declared.event_rows.EventRow.{EventRow}

-- a call leaves all as it was
abbrev pub ChangesNothing : Events → Table → Effect Events → Type 0
ChangesNothing events handles effect = (effect.service ≡ events) × (effect.handles ≡ handles)

abbrev pub RefusedCreatesChangeNothing : Type 0
RefusedCreatesChangeNothing = (events : Events) (handles : Table) (target : ℕ) (name : List ℕ) (kind : EventKind) (initial : Bool)
    → is_done (create events handles target name kind initial).answer.status ≡ false
    → ChangesNothing events handles (create events handles target name kind initial)

abbrev pub RefusedOpensChangeNothing : Type 0
RefusedOpensChangeNothing = (events : Events) (handles : Table) (target : ℕ) (name : List ℕ) (access : ℕ)
    → is_done (open_by_name events handles target name access).answer.status ≡ false
    → ChangesNothing events handles (open_by_name events handles target name access)

-- an event that was made is found under its name with its kind and initial state, and under every other name what was before
abbrev pub CreatesAreFound : Type 0
CreatesAreFound = (events : Events) (handles : Table) (target : ℕ) (name other : List ℕ) (kind : EventKind) (initial : Bool)
    → found (create events handles target name kind initial).service.rows other
    ≡ (if (create events handles target name kind initial).answer.status == success && is_key (key_of other) (key_of name)
    then Some (record { number = events.made + 1; kind = kind; initial = initial })
    else found events.rows other)

abbrev pub OpensLeaveEvents : Type 0
OpensLeaveEvents = (events : Events) (handles : Table) (target : ℕ) (name : List ℕ) (access : ℕ)
    → (open_by_name events handles target name access).service ≡ events

-- what is under a key is still there after event.create
abbrev pub CreatesKeepEvents : Type 0
CreatesKeepEvents = (events : Events) (handles : Table) (target : ℕ) (name key : List ℕ) (kind : EventKind) (initial : Bool) (row : EventRow)
    → lookup (is_key key) events.rows ≡ Some row
    → lookup (is_key key) (create events handles target name kind initial).service.rows ≡ Some row

-- a call that makes or opens an event grants one handle, on the event that is found under the name after it
abbrev pub IsGrantedOn : Effect Events → Table → ℕ → List ℕ → ℕ → Type 0
IsGrantedOn effect handles target name access =
    (row : EventRow) × (found effect.service.rows name ≡ Some row) × (effect.handles ≡ with_handle handles target (on_event row.number access))

abbrev pub CreatesGrantTheirEvent : Type 0
CreatesGrantTheirEvent = (events : Events) (handles : Table) (target : ℕ) (name : List ℕ) (kind : EventKind) (initial : Bool)
    → is_done (create events handles target name kind initial).answer.status ≡ true
    → IsGrantedOn (create events handles target name kind initial) handles target name 0

abbrev pub OpensGrantTheirEvent : Type 0
OpensGrantTheirEvent = (events : Events) (handles : Table) (target : ℕ) (name : List ℕ) (access : ℕ)
    → is_done (open_by_name events handles target name access).answer.status ≡ true
    → IsGrantedOn (open_by_name events handles target name access) handles target name access
