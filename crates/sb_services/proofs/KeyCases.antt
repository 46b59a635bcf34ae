-- The definitions, tried on worked calls by computation.
use Rattle.std.specs.Prelude.{◌≡◌, [], ◌∷◌, codes, refl}
use Rattle.sb_call.specs.Statuses.{refusal, granting, success, name_not_found, path_not_found}
use Rattle.sb_handles.specs.Effects.{Effect}
use Rattle.sb_handles.specs.Tables.{no_handles}
use Rattle.sb_services.specs.Registry.{Keys, no_keys, create, open_by_name}

abbrev first : Effect Keys
first = create no_keys no_handles 0 (codes "\\k") 1

made : first.answer ≡ granting success 1 (1 ∷ [])
made = refl

there : (create first.service first.handles 0 (codes "\\K") 1).answer ≡ granting success 2 (2 ∷ [])
there = refl

no_parent : (create first.service first.handles 0 (codes "\\q\\r") 1).answer ≡ refusal path_not_found
no_parent = refl

no_parent_to_open : (open_by_name first.service first.handles 0 (codes "\\q\\r") 1).answer ≡ refusal path_not_found
no_parent_to_open = refl

absent : (open_by_name first.service first.handles 0 (codes "\\k\\r") 1).answer ≡ refusal name_not_found
absent = refl
