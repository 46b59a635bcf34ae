-- The definitions, tried on worked calls by computation.
use Rattle.std.specs.Prelude.{◌≡◌, true, false, [], ◌∷◌, codes, refl}
use Rattle.sb_call.specs.Statuses.{refusal, granting, success, name_exists, type_mismatch, name_not_found}
use Rattle.sb_handles.specs.Effects.{Effect}
use Rattle.sb_handles.specs.Tables.{no_handles}
use Rattle.sb_services.specs.Events.{Events, no_events, create, open_by_name}
use Rattle.sb_services.specs.declared.event_kinds.EventKind.TheVariants.{Notification, Synchronization}

abbrev first : Effect Events
first = create no_events no_handles 0 (codes "\\e") Notification true

made : first.answer ≡ granting success 1 (0 ∷ 1 ∷ [])
made = refl

there : (create first.service first.handles 0 (codes "\\E") Notification false).answer ≡ granting name_exists 2 (0 ∷ 1 ∷ [])
there = refl

other_kind : (create first.service first.handles 0 (codes "\\e") Synchronization true).answer ≡ refusal type_mismatch
other_kind = refl

absent : (open_by_name first.service first.handles 0 (codes "\\x") 0).answer ≡ refusal name_not_found
absent = refl
