-- The keys, and what each call on them does.
use Rattle.std.specs.Prelude.{◌+◌, ℕ, Bool, ◌&&◌, not, List, [], ◌∷◌, Option, None, Some, if◌then◌else◌}
use Rattle.sb_call.specs.Statuses.{success, name_not_found, path_not_found}
use Rattle.sb_handles.specs.Effects.{Effect, refused, grants}
use Rattle.sb_handles.specs.Masks.{access_of, sharing_of}
use Rattle.sb_handles.specs.Tables.{Table}
use Rattle.sb_handles.specs.declared.objects.Held.{Held}
use Rattle.sb_handles.specs.declared.objects.Service.TheVariants as service
use Rattle.sb_names.specs.Maps.{Rows, Rises, found, is_there, put}
use Rattle.sb_names.specs.Numbers.{AreNumbered}
use Rattle.sb_names.specs.Trees.{AreFolded, AreNamed, IsTree, has_parent}

-- the number of the key under each name, and how many were ever made
pub record Keys : Type 0 where
  pub names : Rows ℕ
  pub made : ℕ

abbrev pub no_keys : Keys
no_keys = record { names = []; made = 0 }

-- each name leads to a key that was made, and no two to one
abbrev pub AreMade : Keys → Type 0
AreMade keys = AreNumbered (λ n. n) keys.made keys.names

-- and each is a name, below a key that is there or below the root. Names are kept folded, in rising order
pub record AreKeys (keys : Keys) : Type 0 where
  pub made : AreMade keys
  pub tree : IsTree keys.names
  pub named : AreNamed keys.names
  pub folded : AreFolded keys.names
  pub rise : Rises keys.names

-- the extended word of a key that was made
abbrev pub created_new_key : ℕ
created_new_key = 1

-- the extended word of a key that was there
abbrev pub opened_existing_key : ℕ
opened_existing_key = 2

-- with a key more; its number is one more than the count of keys ever made
abbrev pub with_key : Keys → List ℕ → Keys
with_key keys name = record { names = put keys.names name (keys.made + 1); made = keys.made + 1 }

-- a handle on the key of this number, with this access; keys have no sharing
abbrev pub on_key : ℕ → ℕ → Held
on_key number access = record { object = record { service = service.Key; number = number }; access = access_of access; sharing = sharing_of 0 }

-- key.create, by what is under the name
abbrev pub create_by : Option ℕ → Keys → Table → ℕ → List ℕ → ℕ → Effect Keys
create_by (Some number) keys handles target name access =
    grants keys handles target (on_key number access) success (opened_existing_key ∷ [])
create_by None keys handles target name access =
    grants (with_key keys name) handles target (on_key (keys.made + 1) access) success (created_new_key ∷ [])

-- key.create: the first case that applies
abbrev pub create : Keys → Table → ℕ → List ℕ → ℕ → Effect Keys
create keys handles target name access =
    if not (has_parent keys.names name) then refused keys handles path_not_found
    else create_by (found keys.names name) keys handles target name access

-- key.open, by what is under the name
abbrev pub open_by : Option ℕ → Keys → Table → ℕ → ℕ → Effect Keys
open_by None keys handles target access = refused keys handles name_not_found
open_by (Some number) keys handles target access = grants keys handles target (on_key number access) success []

-- key.open: the first case that applies
abbrev pub open_by_name : Keys → Table → ℕ → List ℕ → ℕ → Effect Keys
open_by_name keys handles target name access =
    if not (has_parent keys.names name) then refused keys handles path_not_found
    else open_by (found keys.names name) keys handles target access

-- a key of the opening namespace can be placed if its parent is there and its name is free
abbrev pub can_start : Keys → List ℕ → Bool
can_start keys name = has_parent keys.names name && not (is_there keys.names name)

-- the keys with one of the opening namespace, if it can be placed
abbrev pub started : Keys → List ℕ → Keys
started keys name = if can_start keys name then with_key keys name else keys
