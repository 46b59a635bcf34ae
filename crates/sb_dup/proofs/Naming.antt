-- The name of an object is that of the one row that leads to it.
use Rattle.std.proofs.Common.{◌≡◌, ◌∙◌, ◌==◌, ℕ, Bool, true, false, cond, not, ap, refl, sym, subst, arith, List, [], ◌∷◌, Option, Some, None, map}
use Rattle.std.specs.Cmp.Lexicographic.{bytes_decides}
use Rattle.std.specs.Prelude.{◌&&◌, nat_eq, option_map, IfSome}
use Rattle.std.specs.List.{AllByRecursion, IsDistinct, find, list_all}
use Rattle.std.specs.Map.{lookup}
use Rattle.std.proofs.lemmas.Bool.{and_parts, false≢true}
use Rattle.std.proofs.lemmas.Bool.Decides.{nat_tests}
use Rattle.sb_dup.specs.Names.{name_by, name_in, object_name}
use Rattle.sb_services.specs.Events as events
use Rattle.sb_handles.specs.declared.objects.Object.{Object}
use Rattle.sb_handles.specs.declared.objects.Service.{Service}
use Rattle.sb_handles.specs.declared.objects.Service.TheVariants as service
use Rattle.sb_kernel.specs.Held.{IsNameIn, IsObjectName, itself}
use Rattle.sb_kernel.specs.Kept.{IsSound}
use Rattle.sb_kernel.specs.Namespaces.{Space}
use Rattle.sb_names.specs.Maps.{Rows, is_key}
use Rattle.sb_names.specs.Objects.{IsNameBy}
use Rattle.sb_base.specs.Names.{is_name_of}

some_number : (m n : ℕ) → ◌≡◌ {A = Option ℕ} (Some m) (Some n) → m ≡ n
some_number m n h = cc

same_number : (m n : ℕ) → m ≡ n → (m == n) ≡ true
same_number m n h = grind (arith, nat_tests)

module _ {V : Type 0} (number_of : V → ℕ) where
  none_found : (rows : Rows V) (n : ℕ) → list_all (λ row. not (number_of row.1 == n)) rows ≡ true → None ≡ name_in number_of rows n
  none_found [] n h = refl
  none_found (row ∷ rows) n h = by (number_of row.1 == n) h (none_found rows n)
    where
      by : (b : Bool) → (not b && list_all (λ row. not (number_of row.1 == n)) rows) ≡ true
          → (list_all (λ row. not (number_of row.1 == n)) rows ≡ true → None ≡ name_in number_of rows n)
          → None ≡ option_map (λ row. row.0) (cond b (Some row) (find (λ row. number_of row.1 == n) rows))
      by true h more = absurd (false≢true h)
      by false h more = more h

  -- a number that no row has is not found
  apart : (rows : Rows V) (name : List ℕ) (m n : ℕ) → AllByRecursion (λ y. nat_eq m y ≡ false) (map (λ row. number_of row.1) rows)
      → option_map number_of (lookup (is_key name) rows) ≡ Some n → nat_eq m n ≡ false
  apart [] name m n d h = absurd cc
  apart (row ∷ rows) name m n d h = by (is_key name row.0) h (apart rows name m n d.1)
    where
      by : (b : Bool) → option_map number_of (cond b (Some row.1) (lookup (is_key name) rows)) ≡ Some n
          → (option_map number_of (lookup (is_key name) rows) ≡ Some n → nat_eq m n ≡ false) → nat_eq m n ≡ false
      by true h more = subst (λ k. nat_eq m k ≡ false) (some_number _ _ h) d.0
      by false h more = more h

  pub name_found : (rows : Rows V) (name : List ℕ) (n : ℕ) → IsDistinct nat_eq (map (λ row. number_of row.1) rows)
      → option_map number_of (lookup (is_key name) rows) ≡ Some n → Some name ≡ name_in number_of rows n
  unfolding IsDistinct
  name_found [] name n d h = absurd cc
  name_found (row ∷ rows) name n d h = by (is_key name row.0) refl (number_of row.1 == n) refl h (name_found rows name n d.1)
    where
      by : (k : Bool) → is_key name row.0 ≡ k → (b : Bool) → (number_of row.1 == n) ≡ b
          → option_map number_of (cond k (Some row.1) (lookup (is_key name) rows)) ≡ Some n
          → (option_map number_of (lookup (is_key name) rows) ≡ Some n → Some name ≡ name_in number_of rows n)
          → Some name ≡ option_map (λ row. row.0) (cond b (Some row) (find (λ row. number_of row.1 == n) rows))
      by true k true e h more = ap Some ((bytes_decides name row.0).0 k)
      by true k false e h more = absurd (false≢true (sym e ∙ same_number _ _ (some_number _ _ h)))
      by false k true e h more = absurd (false≢true (sym (apart rows name (number_of row.1) n d.0 h) ∙ e))
      by false k false e h more = more h

  by_row : (rows : Rows V) (n : ℕ) (name : Option (List ℕ)) → IsDistinct nat_eq (map (λ row. number_of row.1) rows)
      → IsNameBy number_of rows n name → name ≡ name_in number_of rows n
  by_row rows n None d h = none_found rows n h
  by_row rows n (Some name) d h = name_found rows name n d h

  row_named : (rows : Rows V) (n : ℕ) → list_all (λ row. is_name_of row.0) rows ≡ true → IfSome (name_in number_of rows n) (λ units. is_name_of units ≡ true)
  row_named [] n h = tt
  row_named (row ∷ rows) n h = by (number_of row.1 == n) (and_parts (is_name_of row.0) (list_all (λ row. is_name_of row.0) rows) h) (row_named rows n)
    where
      by : (b : Bool) → (is_name_of row.0 ≡ true) × (list_all (λ row. is_name_of row.0) rows ≡ true)
          → (list_all (λ row. is_name_of row.0) rows ≡ true → IfSome (name_in number_of rows n) (λ units. is_name_of units ≡ true))
          → IfSome (option_map (λ row. row.0) (cond b (Some row) (find (λ row. number_of row.1 == n) rows))) (λ units. is_name_of units ≡ true)
      by true h more = h.0
      by false h more = more h.1

by_service : (s : Service) (ns : Space) (n : ℕ) (name : Option (List ℕ)) → IsSound ns → IsNameIn s ns n name → name ≡ name_by s ns n
by_service service.File ns n name sound h = by_row itself ns.files.names n name sound.files_are.objects.made.distinct h
by_service service.Pipe ns n name sound h = h
by_service service.Key ns n name sound h = by_row itself ns.keys.names n name sound.keys_are.made.distinct h
by_service service.Event ns n name sound h = by_row events.number_of ns.events.rows n name sound.events_are.made.numbered.distinct h

pub name_is : (ns : Space) (object : Object) (name : Option (List ℕ)) → IsSound ns → IsObjectName ns object name → name ≡ object_name ns object
name_is ns object name sound h = by_service object.service ns object.number name sound h

named_by_service : (s : Service) (ns : Space) (n : ℕ) → IsSound ns → IfSome (name_by s ns n) (λ units. is_name_of units ≡ true)
named_by_service service.File ns n sound = row_named itself ns.files.names n sound.files_are.named
named_by_service service.Pipe ns n sound = tt
named_by_service service.Key ns n sound = row_named itself ns.keys.names n sound.keys_are.named
named_by_service service.Event ns n sound = row_named events.number_of ns.events.rows n sound.events_are.made.named

pub is_named : (ns : Space) (object : Object) (name : Option (List ℕ)) → IsSound ns → IsObjectName ns object name
    → IfSome name (λ units. is_name_of units ≡ true)
is_named ns object name sound h =
    subst (λ name. IfSome name (λ units. is_name_of units ≡ true)) (sym (name_is ns object name sound h)) (named_by_service object.service ns object.number sound)
