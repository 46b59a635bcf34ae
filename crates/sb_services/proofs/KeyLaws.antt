-- The laws of keys.
use Rattle.std.proofs.Common.{◌≡◌, ◌+◌, ℕ, Bool, true, false, refl, List, if◌then◌else◌}
use Rattle.std.specs.Prelude.{Option, None, Some, not, ◌&&◌}
use Rattle.sb_call.specs.Statuses.{path_not_found}
use Rattle.sb_handles.specs.Effects.{Effect, refused}
use Rattle.sb_names.specs.Keys.{key_of}
use Rattle.std.specs.Map.{lookup}
use Rattle.sb_names.specs.Laws.{PutsAreFound, PutsKeepRows, PutsKeepTrees}
use Rattle.sb_names.specs.Maps.{is_key, found}
use Rattle.sb_names.specs.Trees.{IsTree, has_parent}
use Rattle.sb_services.specs.Registry.{Keys, create_by}
use Rattle.sb_services.specs.KeyLaws.{CreatesAreFound, CreatesKeepKeys, CreatesKeepTrees, says_made}

-- what an effect of key.create makes of another name
abbrev IsFoundAfter : Keys → List ℕ → List ℕ → Effect Keys → Type 0
IsFoundAfter keys name other effect =
    found effect.service.names other
    ≡ (if says_made effect.answer.ext && is_key (key_of other) (key_of name) then Some (keys.made + 1) else found keys.names other)

pub creates_are_found : PutsAreFound ℕ → CreatesAreFound
creates_are_found puts keys handles target name other access = by (has_parent keys.names name) (found keys.names name)
  where
    by : (parent : Bool) (number : Option ℕ) → IsFoundAfter keys name other
        (if not parent then refused keys handles path_not_found else create_by number keys handles target name access)
    by false number = refl
    by true None = puts keys.names name other (keys.made + 1)
    by true (Some number) = refl

pub creates_keep_trees : PutsKeepTrees → CreatesKeepTrees
creates_keep_trees keep keys handles target name access tree = by (has_parent keys.names name) refl (found keys.names name)
  where
    by : (parent : Bool) → has_parent keys.names name ≡ parent → (number : Option ℕ)
        → IsTree (if not parent then refused keys handles path_not_found else create_by number keys handles target name access).service.names
    by false h number = tree
    by true h None = keep keys.names name (keys.made + 1) tree h
    by true h (Some number) = tree

pub creates_keep_keys : PutsKeepRows ℕ → CreatesKeepKeys
creates_keep_keys keep keys handles target name key access old f = by (has_parent keys.names name) (found keys.names name) refl
  where
    P : Effect Keys → Type 0
    P effect = lookup (is_key key) effect.service.names ≡ Some old

    by : (parent : Bool) (o : Option ℕ) → found keys.names name ≡ o
        → P (if not parent then refused keys handles path_not_found else create_by o keys handles target name access)
    by false o there = f
    by true None absent = keep keys.names name key (keys.made + 1) old absent f
    by true (Some number) there = f
