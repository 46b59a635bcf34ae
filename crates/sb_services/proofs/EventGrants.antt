-- Each handle is granted on the event of the name.
use Rattle.std.proofs.Common.{◌≡◌, ◌+◌, Bool, true, false, refl, ◌∙◌, ap, ◌==◌, if◌then◌else◌}
use Rattle.std.proofs.lemmas.Bool.{false≢true}
use Rattle.std.specs.Prelude.{Option, None, Some, not}
use Rattle.sb_call.specs.Statuses.{name_exists, type_mismatch}
use Rattle.sb_handles.specs.Effects.{Effect, grants, refused, is_done}
use Rattle.sb_names.specs.Keys.{key_of}
use Rattle.sb_names.specs.Laws.{PutsAreFound}
use Rattle.sb_names.specs.Maps.{found}
use Rattle.sb_services.specs.Events.{Events, create_by, on_event, open_by, shown}
use Rattle.sb_services.specs.EventKinds.{kind_number}
use Rattle.sb_services.specs.EventLaws.{CreatesGrantTheirEvent, IsGrantedOn, OpensGrantTheirEvent}
use Rattle.sb_services.specs.declared.event_rows.EventRow.{EventRow}
use Rattle.sb_services.proofs.NamedPipes.{own_key}

pub creates_grant_their_event : PutsAreFound EventRow → CreatesGrantTheirEvent
creates_grant_their_event puts events handles target name kind initial = by (found events.rows name) refl
  where
    P : Effect Events → Type 0
    P effect = is_done effect.answer.status ≡ true → IsGrantedOn effect handles target name 0

    new : EventRow
    new = record { number = events.made + 1; kind = kind; initial = initial }

    there : (row : EventRow) (same : Bool) → found events.rows name ≡ Some row
        → P (if not same then refused events handles type_mismatch
        else grants events handles target (on_event row.number 0) name_exists (shown row.kind row.initial))
    there row true f h = (row, f, refl)
    there row false f h = absurd (false≢true h)

    by : (row : Option EventRow) → found events.rows name ≡ row → P (create_by row events handles target name kind initial)
    by None f h =
        (new, puts events.rows name name new ∙ ap (λ b. if b then Some new else found events.rows name) (own_key (key_of name)), refl)
    by (Some row) f h = there row (kind_number row.kind == kind_number kind) f h

pub opens_grant_their_event : OpensGrantTheirEvent
opens_grant_their_event events handles target name access = by (found events.rows name) refl
  where
    by : (row : Option EventRow) → found events.rows name ≡ row → is_done (open_by row events handles target access).answer.status ≡ true
        → IsGrantedOn (open_by row events handles target access) handles target name access
    by None f h = absurd (false≢true h)
    by (Some row) f h = (row, f, refl)
