-- Rows stay in rising order when one is put in or taken out.
use Rattle.std.proofs.Common.{◌≡◌, ℕ, Bool, true, false, cond, refl, sym, ◌∙◌, ap, subst, List, [], ◌∷◌, nat_cmp, if◌then◌else◌}
use Rattle.std.proofs.lemmas.Bool.{false≢true}
use Rattle.std.proofs.lemmas.Map.{keys-set_value}
use Rattle.std.specs.BTreeMap.{insert_entry}
use Rattle.std.specs.Cmp.Lexicographic.{slice_cmp, nat_list_cmp_total, texts_ties, bytes_decides}
use Rattle.std.specs.List.{AllByRecursion, filter}
use Rattle.std.specs.List.Sorted.{IsStrictlySortedBy}
use Rattle.std.specs.Map.{keys_of, remove_entry, set_value}
use Rattle.std.specs.Ordering.{match_ordering, ordering_reverse, is_eq}
use Rattle.std.specs.declared.cmp.Ordering.{Ordering}
use Rattle.std.specs.declared.cmp.Ordering.TheVariants.{Less, Equal, Greater}
use Rattle.sb_names.specs.Maps.{Rows, Rises, is_key}

-- keys are compared unit by unit
abbrev pub by_unit : List ℕ → List ℕ → Ordering
by_unit = slice_cmp nat_cmp

pub other_way : (a b : List ℕ) (o : Ordering) → by_unit a b ≡ o → by_unit b a ≡ ordering_reverse o
other_way a b o h = nat_list_cmp_total.antisymm b a ∙ ap ordering_reverse h

-- the test of equal keys, by their order
pub key_test : (a b : List ℕ) → is_key a b ≡ is_eq (by_unit a b)
key_test a b = texts_ties a b

pub equal_keys : (a b : List ℕ) → by_unit a b ≡ Equal → a ≡ b
equal_keys a b h = (bytes_decides a b).0 (key_test a b ∙ ap is_eq h)

pub own_key : (a : List ℕ) → by_unit a a ≡ Equal
own_key a = by (by_unit a a) refl
  where
    by : (o : Ordering) → by_unit a a ≡ o → by_unit a a ≡ Equal
    by Equal h = h
    by Less h = absurd (false≢true (ap is_less (sym (other_way a a Less h) ∙ h)))
      where
        is_less : Ordering → Bool
        is_less Less = true
        is_less _ = false
    by Greater h = absurd (false≢true (sym (ap is_less (sym (other_way a a Greater h) ∙ h))))
      where
        is_less : Ordering → Bool
        is_less Less = true
        is_less _ = false

below_all : (a b : List ℕ) (keys : List (List ℕ)) → by_unit a b ≡ Less → AllByRecursion (λ k. by_unit b k ≡ Less) keys → AllByRecursion (λ k. by_unit a k ≡ Less) keys
below_all a b [] l h = tt
below_all a b (k ∷ keys) l h = (nat_list_cmp_total.trans a b k l h.0, below_all a b keys l h.1)

module _ {V : Type 0} where
  pub all_put : (P : List ℕ → Type 0) (key : List ℕ) (value : V) (rows : Rows V) → AllByRecursion P (keys_of rows) → P key
      → AllByRecursion P (keys_of (insert_entry by_unit rows key value))
  all_put P key value [] h k = (k, tt)
  all_put P key value (row ∷ rows) h k = by (by_unit key row.0) (all_put P key value rows h.1 k)
    where
      by : (o : Ordering) → AllByRecursion P (keys_of (insert_entry by_unit rows key value))
          → AllByRecursion P (keys_of (match_ordering o ((key, value) ∷ row ∷ rows) ((row.0, value) ∷ rows) (row ∷ insert_entry by_unit rows key value)))
      by Less i = (k, h)
      by Equal i = h
      by Greater i = (h.0, i)

  all_out : (P : List ℕ → Type 0) (test : List ℕ → Bool) (rows : Rows V) → AllByRecursion P (keys_of rows) → AllByRecursion P (keys_of (remove_entry test rows))
  all_out P test [] h = tt
  all_out P test (row ∷ rows) h = by (test row.0) (all_out P test rows h.1)
    where
      by : (b : Bool) → AllByRecursion P (keys_of (remove_entry test rows)) → AllByRecursion P (keys_of (cond b rows (row ∷ remove_entry test rows)))
      by true i = h.1
      by false i = (h.0, i)

  pub rises_put : (key : List ℕ) (value : V) (rows : Rows V) → Rises rows → Rises (insert_entry by_unit rows key value)
  unfolding IsStrictlySortedBy
  rises_put key value [] r = (tt, tt)
  rises_put key value (row ∷ rows) r = by (by_unit key row.0) refl (rises_put key value rows r.1)
    where
      by : (o : Ordering) → by_unit key row.0 ≡ o → Rises (insert_entry by_unit rows key value)
          → Rises (match_ordering o ((key, value) ∷ row ∷ rows) ((row.0, value) ∷ rows) (row ∷ insert_entry by_unit rows key value))
      by Less e i = ((e, below_all key row.0 (keys_of rows) e r.0), r)
      by Equal e i = r
      by Greater e i = (all_put (λ k. by_unit row.0 k ≡ Less) key value rows r.0 (other_way key row.0 Greater e), i)

  pub rises_out : (test : List ℕ → Bool) (rows : Rows V) → Rises rows → Rises (remove_entry test rows)
  unfolding IsStrictlySortedBy
  rises_out test [] r = tt
  rises_out test (row ∷ rows) r = by (test row.0) (rises_out test rows r.1)
    where
      by : (b : Bool) → Rises (remove_entry test rows) → Rises (cond b rows (row ∷ remove_entry test rows))
      by true i = r.1
      by false i = (all_out (λ k. by_unit row.0 k ≡ Less) test rows r.0, i)

  pub rises_replaced : (test : List ℕ → Bool) (value : V) (rows : Rows V) → Rises rows → Rises (set_value test rows value)
  rises_replaced test value rows r = subst (IsStrictlySortedBy by_unit) (sym (keys-set_value test rows value)) r

pub rises_none : (V : Type 0) → Rises {V = V} []
unfolding IsStrictlySortedBy
rises_none V = tt

all_kept : {V : Type 0} (P : List ℕ → Type 0) (test : List ℕ × V → Bool) (rows : Rows V) → AllByRecursion P (keys_of rows) → AllByRecursion P (keys_of (filter test rows))
all_kept P test [] h = tt
all_kept P test (row ∷ rows) h = by (test row) (all_kept P test rows h.1)
  where
    by : (b : Bool) → AllByRecursion P (keys_of (filter test rows)) → AllByRecursion P (keys_of (if b then row ∷ filter test rows else filter test rows))
    by true i = (h.0, i)
    by false i = i

pub rises_kept : {V : Type 0} (test : List ℕ × V → Bool) (rows : Rows V) → Rises rows → Rises (filter test rows)
unfolding IsStrictlySortedBy
rises_kept test [] r = tt
rises_kept test (row ∷ rows) r = by (test row) (rises_kept test rows r.1)
  where
    by : (b : Bool) → Rises (filter test rows) → Rises (if b then row ∷ filter test rows else filter test rows)
    by true i = (all_kept (λ k. by_unit row.0 k ≡ Less) test rows r.0, i)
    by false i = i
