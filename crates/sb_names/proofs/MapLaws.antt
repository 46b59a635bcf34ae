-- The laws of maps from names.
use Rattle.std.proofs.Common.{◌≡◌, ℕ, Bool, true, false, cond, refl, sym, subst, ◌∙◌, ap, List, [], ◌∷◌, if◌then◌else◌}
use Rattle.std.specs.List.{IsDistinct}
use Rattle.std.proofs.lemmas.Bool.{false≢true}
use Rattle.std.specs.Prelude.{None, Some, is_some}
use Rattle.std.specs.BTreeMap.{insert_entry}
use Rattle.std.specs.Cmp.Lexicographic.{bytes_decides, nat_list_eq_equiv}
use Rattle.std.proofs.lemmas.Map.{lookup-remove_entry}
use Rattle.std.proofs.lemmas.Map.Keys.{IsDistinct-from_sorted}
use Rattle.std.specs.Map.{keys_of, lookup}
use Rattle.std.specs.Ordering.{match_ordering, is_eq}
use Rattle.std.specs.declared.cmp.Ordering.{Ordering}
use Rattle.std.specs.declared.cmp.Ordering.TheVariants.{Less, Equal, Greater}
use Rattle.sb_names.specs.Keys.{key_of}
use Rattle.sb_names.specs.Laws.{PutsAreFound, PutsKeepRows, OutIsOut}
use Rattle.sb_names.specs.Maps.{Rows, is_key}
use Rattle.sb_names.proofs.RisingLemmas.{by_unit, own_key, key_test, equal_keys}

pub own_test : (key : List ℕ) → is_key key key ≡ true
own_test key = key_test key key ∙ ap is_eq (own_key key)

pub is_key_eq : (a b : List ℕ) → is_key a b ≡ true → a ≡ b
is_key_eq a b h = (bytes_decides a b).0 h

module _ {V : Type 0} (key : List ℕ) (value : V) where
  pub is_found : (other : List ℕ) (rows : Rows V)
      → lookup (is_key other) (insert_entry by_unit rows key value) ≡ (if is_key other key then Some value else lookup (is_key other) rows)
  is_found other [] = refl
  is_found other (row ∷ rows) = by (by_unit key row.0) refl (is_key other key) refl (is_key other row.0) refl (is_found other rows)
    where
      same_test : by_unit key row.0 ≡ Equal → is_key other key ≡ is_key other row.0
      same_test e = ap (is_key other) (equal_keys key row.0 e)

      by : (o : Ordering) → by_unit key row.0 ≡ o → (b : Bool) → is_key other key ≡ b → (c : Bool) → is_key other row.0 ≡ c
          → lookup (is_key other) (insert_entry by_unit rows key value) ≡ (if is_key other key then Some value else lookup (is_key other) rows)
          → lookup (is_key other) (match_ordering o ((key, value) ∷ row ∷ rows) ((row.0, value) ∷ rows) (row ∷ insert_entry by_unit rows key value))
          ≡ (if b then Some value else cond c (Some row.1) (lookup (is_key other) rows))
      by Less e b t c u i = rw (t, u) refl
      by Equal e true t true u i = rw u refl
      by Equal e false t false u i = rw u refl
      by Equal e true t false u i = absurd (false≢true (sym u ∙ sym (same_test e) ∙ t))
      by Equal e false t true u i = absurd (false≢true (sym t ∙ same_test e ∙ u))
      by Greater e true t true u i =
          let both : key ≡ row.0 = sym (is_key_eq other key t) ∙ is_key_eq other row.0 u in
          absurd (false≢true (ap is_eq (sym e ∙ ap (by_unit key) (sym both) ∙ own_key key)))
      by Greater e false t true u i = rw u refl
      by Greater e b t false u i = rw u (i ∙ rw t refl)

pub puts_are_found : (V : Type 0) → PutsAreFound V
puts_are_found V rows name other value = is_found (key_of name) value (key_of other) rows

pub puts_keep_rows : (V : Type 0) → PutsKeepRows V
puts_keep_rows V rows name key value old absent there = by (is_key key (key_of name)) refl
  where
    by : (b : Bool) → is_key key (key_of name) ≡ b → lookup (is_key key) (insert_entry by_unit rows (key_of name) value) ≡ Some old
    by true e =
        let gone : lookup (is_key key) rows ≡ None = ap (λ k. lookup (is_key k) rows) (is_key_eq key (key_of name) e) ∙ absent in
        absurd (false≢true (sym (ap is_some gone) ∙ ap is_some there))
    by false e = is_found (key_of name) value key rows ∙ ap (λ b. if b then Some value else lookup (is_key key) rows) e ∙ there

pub out_is_out : (V : Type 0) → OutIsOut V
out_is_out V rows name other rises =
    let apart = subst (λ test. IsDistinct test (keys_of rows)) (λ i x y. sym (key_test x y) i) (IsDistinct-from_sorted by_unit (keys_of rows) rises) in
    lookup-remove_entry nat_list_eq_equiv (is_key (key_of name)) (λ x y h. ap (λ k. is_key k y) (is_key_eq (key_of name) x h)) (key_of other) rows apart
    ∙ ap (λ b. cond b None (lookup (is_key (key_of other)) rows)) (nat_list_eq_equiv.symm (key_of name) (key_of other))
