-- The events, and what each call on them does.
use Rattle.std.specs.Prelude.{◌≡◌, ◌+◌, ◌<◌, ℕ, Bool, true, not, ◌==◌, List, [], ◌∷◌, Option, None, Some, length, slice_index_or, if◌then◌else◌}
use Rattle.std.specs.List.{list_all}
use Rattle.sb_base.specs.Names.{is_name_of}
use Rattle.sb_call.specs.Statuses.{success, name_exists, type_mismatch, name_not_found}
use Rattle.sb_handles.specs.Effects.{Effect, refused, grants}
use Rattle.sb_handles.specs.Masks.{access_of, sharing_of}
use Rattle.sb_handles.specs.Tables.{Table}
use Rattle.sb_handles.specs.declared.objects.Held.{Held}
use Rattle.sb_handles.specs.declared.objects.Service.TheVariants as service
use Rattle.sb_names.specs.Maps.{Rows, Rises, found, is_there, put}
use Rattle.sb_names.specs.Objects.{IsNameBy}
use Rattle.sb_names.specs.Numbers.{AreNumbered}
use Rattle.sb_services.specs.EventKinds.{kind_number, state_number}
use Rattle.sb_services.specs.declared.event_kinds.EventKind.{EventKind}
use Rattle.sb_services.specs.declared.event_rows.EventRow.{EventRow}

-- the event under each name, and how many were ever made
pub record Events : Type 0 where
  pub rows : Rows EventRow
  pub made : ℕ

abbrev pub no_events : Events
no_events = record { rows = []; made = 0 }

-- the number of an event
abbrev pub number_of : EventRow → ℕ
number_of row = row.number

-- each name is one
abbrev pub AreNamed : Rows EventRow → Type 0
AreNamed rows = list_all (λ row. is_name_of row.0) rows ≡ true

-- each name is one and leads to an event that was made, and no two to one
pub record AreMade (events : Events) : Type 0 where
  pub numbered : AreNumbered number_of events.made events.rows
  pub named : AreNamed events.rows

-- what a service keeps: the events, and beside them the folded name of each, that of event n at place n - 1
pub record AreKept (rows : Rows EventRow) (names : List (List ℕ)) : Type 0 where
  pub made : AreMade (record { rows = rows; made = length names })
  pub under : (n : ℕ) → n < length names → IsNameBy number_of rows (n + 1) (Some (slice_index_or names n []))

-- and names are in rising order
pub record AreEvents (events : Events) : Type 0 where
  pub made : AreMade events
  pub rise : Rises events.rows

-- with an event more; its number is one more than the count of events ever made
abbrev pub with_event : Events → List ℕ → EventKind → Bool → Events
with_event events name kind initial =
    record { rows = put events.rows name (record { number = events.made + 1; kind = kind; initial = initial }); made = events.made + 1 }

-- a handle on the event of this number, with this access; events have no sharing
abbrev pub on_event : ℕ → ℕ → Held
on_event number access = record { object = record { service = service.Event; number = number }; access = access_of access; sharing = sharing_of 0 }

-- kind and initial state, as extended words
abbrev pub shown : EventKind → Bool → List ℕ
shown kind initial = kind_number kind ∷ state_number initial ∷ []

-- event.create, by what is under the name
abbrev pub create_by : Option EventRow → Events → Table → ℕ → List ℕ → EventKind → Bool → Effect Events
create_by (Some row) events handles target name kind initial =
    if not (kind_number row.kind == kind_number kind) then refused events handles type_mismatch
    else grants events handles target (on_event row.number 0) name_exists (shown row.kind row.initial)
create_by None events handles target name kind initial =
    grants (with_event events name kind initial) handles target (on_event (events.made + 1) 0) success (shown kind initial)

-- event.create: the first case that applies
abbrev pub create : Events → Table → ℕ → List ℕ → EventKind → Bool → Effect Events
create events handles target name kind initial = create_by (found events.rows name) events handles target name kind initial

-- event.open, by what is under the name
abbrev pub open_by : Option EventRow → Events → Table → ℕ → ℕ → Effect Events
open_by None events handles target access = refused events handles name_not_found
open_by (Some row) events handles target access =
    grants events handles target (on_event row.number access) success (shown row.kind row.initial)

-- event.open
abbrev pub open_by_name : Events → Table → ℕ → List ℕ → ℕ → Effect Events
open_by_name events handles target name access = open_by (found events.rows name) events handles target access

-- an event of the opening namespace can be placed if its name is free
abbrev pub can_start : Events → List ℕ → Bool
can_start events name = not (is_there events.rows name)

-- the events with one of the opening namespace, if it can be placed
abbrev pub started : Events → List ℕ → EventKind → Bool → Events
started events name kind initial = if can_start events name then with_event events name kind initial else events
