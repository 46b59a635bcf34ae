-- Each handle is granted on the key of the name.
use Rattle.std.proofs.Common.{◌≡◌, ◌+◌, ℕ, Bool, true, false, refl, ◌∙◌, ap, arith, if◌then◌else◌}
use Rattle.std.specs.Prelude.{Option, None, Some, not}
use Rattle.sb_call.specs.Statuses.{path_not_found, success}
use Rattle.sb_handles.specs.Effects.{Effect, refused}
use Rattle.sb_names.specs.Keys.{key_of}
use Rattle.sb_names.specs.Laws.{PutsAreFound}
use Rattle.sb_names.specs.Maps.{found}
use Rattle.sb_names.specs.Trees.{has_parent}
use Rattle.sb_services.specs.Registry.{Keys, create_by, open_by}
use Rattle.sb_services.specs.KeyLaws.{CreatesGrantTheirKey, IsGrantedOn, OpensGrantTheirKey}
use Rattle.sb_services.proofs.NamedPipes.{own_key}

pub creates_grant_their_key : PutsAreFound ℕ → CreatesGrantTheirKey
creates_grant_their_key puts keys handles target name access = by (has_parent keys.names name) (found keys.names name) refl
  where
    P : Effect Keys → Type 0
    P effect = effect.answer.status ≡ success → IsGrantedOn effect handles target name access

    by : (parent : Bool) (number : Option ℕ) → found keys.names name ≡ number
        → P (if not parent then refused keys handles path_not_found else create_by number keys handles target name access)
    by false number f h = absurd (omega (arith, h))
    by true None f h = (
      keys.made + 1,
      puts keys.names name name (keys.made + 1)
          ∙ ap (λ b. if b then Some (keys.made + 1) else found keys.names name) (own_key (key_of name)),
      refl,
    )
    by true (Some number) f h = (number, f, refl)

pub opens_grant_their_key : OpensGrantTheirKey
opens_grant_their_key keys handles target name access = by (has_parent keys.names name) (found keys.names name) refl
  where
    P : Effect Keys → Type 0
    P effect = effect.answer.status ≡ success → IsGrantedOn effect handles target name access

    by : (parent : Bool) (number : Option ℕ) → found keys.names name ≡ number
        → P (if not parent then refused keys handles path_not_found else open_by number keys handles target access)
    by false number f h = absurd (omega (arith, h))
    by true None f h = absurd (omega (arith, h))
    by true (Some opened) f h = (opened, f, refl)
