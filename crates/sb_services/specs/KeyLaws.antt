-- Laws of keys.
use Rattle.std.specs.Prelude.{◌≡◌, ◌+◌, ℕ, Bool, false, ◌&&◌, ◌==◌, nat_eq, List, [], ◌∷◌, Some, if◌then◌else◌}
use Rattle.std.specs.Cmp.Lexicographic.{pointwise}
use Rattle.std.specs.Map.{lookup}
use Rattle.sb_call.specs.Statuses.{success}
use Rattle.sb_handles.specs.Effects.{Effect}
use Rattle.sb_handles.specs.Tables.{Table, with_handle}
use Rattle.sb_names.specs.Keys.{key_of}
use Rattle.sb_names.specs.Maps.{is_key, found}
use Rattle.sb_names.specs.Trees.{IsTree}
use Rattle.sb_services.specs.Registry.{Keys, create, open_by_name, created_new_key, on_key}

-- a call leaves all as it was
abbrev pub ChangesNothing : Keys → Table → Effect Keys → Type 0
ChangesNothing keys handles effect = (effect.service ≡ keys) × (effect.handles ≡ handles)

abbrev pub RefusedCreatesChangeNothing : Type 0
RefusedCreatesChangeNothing = (keys : Keys) (handles : Table) (target : ℕ) (name : List ℕ) (access : ℕ)
    → (create keys handles target name access).answer.status == success ≡ false
    → ChangesNothing keys handles (create keys handles target name access)

abbrev pub RefusedOpensChangeNothing : Type 0
RefusedOpensChangeNothing = (keys : Keys) (handles : Table) (target : ℕ) (name : List ℕ) (access : ℕ)
    → (open_by_name keys handles target name access).answer.status == success ≡ false
    → ChangesNothing keys handles (open_by_name keys handles target name access)

-- the extended words say that a key was made
abbrev pub says_made : List ℕ → Bool
says_made words = pointwise nat_eq words (created_new_key ∷ [])

-- a key that was made is found under its name with its number, and under every other name what was before
abbrev pub CreatesAreFound : Type 0
CreatesAreFound = (keys : Keys) (handles : Table) (target : ℕ) (name other : List ℕ) (access : ℕ)
    → found (create keys handles target name access).service.names other
    ≡ (if says_made (create keys handles target name access).answer.ext && is_key (key_of other) (key_of name)
    then Some (keys.made + 1)
    else found keys.names other)

abbrev pub OpensLeaveKeys : Type 0
OpensLeaveKeys = (keys : Keys) (handles : Table) (target : ℕ) (name : List ℕ) (access : ℕ)
    → (open_by_name keys handles target name access).service ≡ keys

-- what is under a name is still there after key.create
abbrev pub CreatesKeepKeys : Type 0
CreatesKeepKeys = (keys : Keys) (handles : Table) (target : ℕ) (name key : List ℕ) (access number : ℕ)
    → lookup (is_key key) keys.names ≡ Some number → lookup (is_key key) (create keys handles target name access).service.names ≡ Some number

-- each key is below one that is there, or below the root
abbrev pub CreatesKeepTrees : Type 0
CreatesKeepTrees = (keys : Keys) (handles : Table) (target : ℕ) (name : List ℕ) (access : ℕ)
    → IsTree keys.names → IsTree (create keys handles target name access).service.names

-- a call that answers success grants one handle, on the key that is found under the name after it, with the access that was
-- asked for
abbrev pub IsGrantedOn : Effect Keys → Table → ℕ → List ℕ → ℕ → Type 0
IsGrantedOn effect handles target name access =
    (number : ℕ) × (found effect.service.names name ≡ Some number) × (effect.handles ≡ with_handle handles target (on_key number access))

abbrev pub CreatesGrantTheirKey : Type 0
CreatesGrantTheirKey = (keys : Keys) (handles : Table) (target : ℕ) (name : List ℕ) (access : ℕ)
    → (create keys handles target name access).answer.status ≡ success
    → IsGrantedOn (create keys handles target name access) handles target name access

abbrev pub OpensGrantTheirKey : Type 0
OpensGrantTheirKey = (keys : Keys) (handles : Table) (target : ℕ) (name : List ℕ) (access : ℕ)
    → (open_by_name keys handles target name access).answer.status ≡ success
    → IsGrantedOn (open_by_name keys handles target name access) handles target name access
