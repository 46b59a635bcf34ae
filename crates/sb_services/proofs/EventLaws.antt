-- The laws of events.
use Rattle.std.proofs.Common.{◌≡◌, ◌+◌, ℕ, Bool, true, false, refl, List, if◌then◌else◌, ◌==◌}
use Rattle.std.specs.Prelude.{Option, None, Some, not, ◌&&◌}
use Rattle.sb_call.specs.Statuses.{success, name_exists, type_mismatch}
use Rattle.sb_handles.specs.Effects.{Effect, refused, grants}
use Rattle.sb_names.specs.Keys.{key_of}
use Rattle.std.specs.Map.{lookup}
use Rattle.sb_names.specs.Laws.{PutsAreFound, PutsKeepRows}
use Rattle.sb_names.specs.Maps.{is_key, found}
use Rattle.sb_services.specs.Events.{Events, create_by, on_event, shown}
use Rattle.sb_services.specs.EventKinds.{kind_number}
use Rattle.sb_services.specs.EventLaws.{CreatesAreFound, CreatesKeepEvents}
use Rattle.sb_services.specs.declared.event_kinds.EventKind.{EventKind}
use Rattle.sb_services.specs.declared.event_rows.EventRow.{EventRow}

-- what an effect of event.create makes of another name
abbrev IsFoundAfter : Events → List ℕ → List ℕ → EventKind → Bool → Effect Events → Type 0
IsFoundAfter events name other kind initial effect =
    found effect.service.rows other
    ≡ (if effect.answer.status == success && is_key (key_of other) (key_of name)
    then Some (record { number = events.made + 1; kind = kind; initial = initial })
    else found events.rows other)

pub creates_are_found : PutsAreFound EventRow → CreatesAreFound
creates_are_found puts events handles target name other kind initial = by (found events.rows name)
  where
    there : (row : EventRow) (same : Bool) → IsFoundAfter events name other kind initial
        (if not same then refused events handles type_mismatch
        else grants events handles target (on_event row.number 0) name_exists (shown row.kind row.initial))
    there row true = refl
    there row false = refl

    by : (row : Option EventRow) → IsFoundAfter events name other kind initial (create_by row events handles target name kind initial)
    by None = puts events.rows name other (record { number = events.made + 1; kind = kind; initial = initial })
    by (Some row) = there row (kind_number row.kind == kind_number kind)

pub creates_keep_events : PutsKeepRows EventRow → CreatesKeepEvents
creates_keep_events keep events handles target name key kind initial old f = by (found events.rows name) refl
  where
    P : Effect Events → Type 0
    P effect = lookup (is_key key) effect.service.rows ≡ Some old

    there : (row : EventRow) (same : Bool) → P (if not same then refused events handles type_mismatch
        else grants events handles target (on_event row.number 0) name_exists (shown row.kind row.initial))
    there row true = f
    there row false = f

    by : (o : Option EventRow) → found events.rows name ≡ o → P (create_by o events handles target name kind initial)
    by None absent = keep events.rows name key (record { number = events.made + 1; kind = kind; initial = initial }) old absent f
    by (Some row) there_is = there row (kind_number row.kind == kind_number kind)
