-- Numbers of rows are kept by each change.
use Rattle.std.proofs.Common.{◌≡◌, ◌+◌, ℕ, Bool, true, false, cond, refl, sym, subst, arith, List, [], ◌∷◌, map, nat_eq}
use Rattle.std.proofs.lemmas.Bool.{and_parts}
use Rattle.std.proofs.lemmas.Bool.Decides.{nat_tests}
use Rattle.std.specs.BTreeMap.{insert_entry}
use Rattle.std.specs.List.{AllByRecursion, IsDistinct, list_all}
use Rattle.std.specs.Map.{remove_entry}
use Rattle.std.specs.Ordering.{match_ordering}
use Rattle.std.specs.declared.cmp.Ordering.{Ordering}
use Rattle.std.specs.declared.cmp.Ordering.TheVariants.{Less, Equal, Greater}
use Rattle.sb_names.specs.Keys.{key_of}
use Rattle.sb_names.specs.Maps.{Rows, is_key}
use Rattle.sb_names.specs.Numbers.{OutsKeepNumbers, PutsKeepNumbers, RenamesKeepNumbers, is_given}
use Rattle.sb_names.specs.Renames.{collected, renamed_key}
use Rattle.sb_names.proofs.RisingLemmas.{by_unit}

module _ {V : Type 0} where
  -- values pass after a put, and after a row is taken out
  all_put : (p : V → Bool) (key : List ℕ) (value : V) (rows : Rows V) → list_all (λ row. p row.1) rows ≡ true → p value ≡ true
      → list_all (λ row. p row.1) (insert_entry by_unit rows key value) ≡ true
  all_put p key value [] h k = rw k refl
  all_put p key value (row ∷ rows) h k =
      let parts = and_parts (p row.1) (list_all (λ row. p row.1) rows) h in
      by parts.0 parts.1 (by_unit key row.0) (all_put p key value rows parts.1 k)
    where
      by : p row.1 ≡ true → list_all (λ row. p row.1) rows ≡ true → (o : Ordering) → list_all (λ row. p row.1) (insert_entry by_unit rows key value) ≡ true
          → list_all (λ row. p row.1) (match_ordering o ((key, value) ∷ row ∷ rows) ((row.0, value) ∷ rows) (row ∷ insert_entry by_unit rows key value)) ≡ true
      by first rest Less i = rw (k, first) rest
      by first rest Equal i = rw k rest
      by first rest Greater i = rw first i

  all_out : (p : V → Bool) (test : List ℕ → Bool) (rows : Rows V) → list_all (λ row. p row.1) rows ≡ true → list_all (λ row. p row.1) (remove_entry test rows) ≡ true
  all_out p test [] h = refl
  all_out p test (row ∷ rows) h =
      let parts = and_parts (p row.1) (list_all (λ row. p row.1) rows) h in
      by parts.0 parts.1 (test row.0) (all_out p test rows parts.1)
    where
      by : p row.1 ≡ true → list_all (λ row. p row.1) rows ≡ true → (b : Bool) → list_all (λ row. p row.1) (remove_entry test rows) ≡ true
          → list_all (λ row. p row.1) (cond b rows (row ∷ remove_entry test rows)) ≡ true
      by first rest true i = rest
      by first rest false i = rw first i

  all_wider : (p q : V → Bool) → ((value : V) → p value ≡ true → q value ≡ true) → (rows : Rows V) → list_all (λ row. p row.1) rows ≡ true
      → list_all (λ row. q row.1) rows ≡ true
  all_wider p q f [] h = refl
  all_wider p q f (row ∷ rows) h =
      let parts = and_parts (p row.1) (list_all (λ row. p row.1) rows) h in
      rw (f row.1 parts.0) (all_wider p q f rows parts.1)

  module _ (number : V → ℕ) where
    abbrev numbers : Rows V → List ℕ
    numbers rows = map (λ row. number row.1) rows

    -- a number is that of no row
    abbrev IsFree : ℕ → Rows V → Type 0
    IsFree n rows = AllByRecursion (λ m. nat_eq n m ≡ false) (numbers rows)

    other_way : (a b : ℕ) → nat_eq a b ≡ false → nat_eq b a ≡ false
    other_way a b h = grind (arith, nat_tests, h)

    free_put : (n : ℕ) (key : List ℕ) (value : V) (rows : Rows V) → IsFree n rows → nat_eq n (number value) ≡ false → IsFree n (insert_entry by_unit rows key value)
    free_put n key value [] h k = (k, tt)
    free_put n key value (row ∷ rows) h k = by (by_unit key row.0) (free_put n key value rows h.1 k)
      where
        by : (o : Ordering) → IsFree n (insert_entry by_unit rows key value)
            → IsFree n (match_ordering o ((key, value) ∷ row ∷ rows) ((row.0, value) ∷ rows) (row ∷ insert_entry by_unit rows key value))
        by Less i = (k, h)
        by Equal i = (k, h.1)
        by Greater i = (h.0, i)

    free_out : (n : ℕ) (test : List ℕ → Bool) (rows : Rows V) → IsFree n rows → IsFree n (remove_entry test rows)
    free_out n test [] h = tt
    free_out n test (row ∷ rows) h = by (test row.0) (free_out n test rows h.1)
      where
        by : (b : Bool) → IsFree n (remove_entry test rows) → IsFree n (cond b rows (row ∷ remove_entry test rows))
        by true i = h.1
        by false i = (h.0, i)

    distinct_none : IsDistinct nat_eq (numbers [])
    unfolding IsDistinct
    distinct_none = tt

    distinct_put : (key : List ℕ) (value : V) (rows : Rows V) → IsDistinct nat_eq (numbers rows) → IsFree (number value) rows
        → IsDistinct nat_eq (numbers (insert_entry by_unit rows key value))
    unfolding IsDistinct
    distinct_put key value [] h k = (tt, tt)
    distinct_put key value (row ∷ rows) h k = by (by_unit key row.0) (distinct_put key value rows h.1 k.1)
      where
        by : (o : Ordering) → IsDistinct nat_eq (numbers (insert_entry by_unit rows key value))
            → IsDistinct nat_eq (numbers (match_ordering o ((key, value) ∷ row ∷ rows) ((row.0, value) ∷ rows) (row ∷ insert_entry by_unit rows key value)))
        by Less i = (k, h)
        by Equal i = (k.1, h.1)
        by Greater i = (free_put (number row.1) key value rows h.0 (other_way (number value) (number row.1) k.0), i)

    distinct_out : (test : List ℕ → Bool) (rows : Rows V) → IsDistinct nat_eq (numbers rows) → IsDistinct nat_eq (numbers (remove_entry test rows))
    unfolding IsDistinct
    distinct_out test [] h = tt
    distinct_out test (row ∷ rows) h = by (test row.0) (distinct_out test rows h.1)
      where
        by : (b : Bool) → IsDistinct nat_eq (numbers (remove_entry test rows)) → IsDistinct nat_eq (numbers (cond b rows (row ∷ remove_entry test rows)))
        by true i = h.1
        by false i = (free_out (number row.1) test rows h.0, i)

    -- the next number is free
    next_free : (count : ℕ) (rows : Rows V) → list_all (λ row. is_given count (number row.1)) rows ≡ true → IsFree (count + 1) rows
    next_free count [] h = tt
    next_free count (row ∷ rows) h =
        let parts = and_parts (is_given count (number row.1)) (list_all (λ row. is_given count (number row.1)) rows) h in
        let apart : nat_eq (count + 1) (number row.1) ≡ false = grind (arith, nat_tests, parts.0) in
        (apart, next_free count rows parts.1)

given_more : (count n : ℕ) → is_given count n ≡ true → is_given (count + 1) n ≡ true
given_more count n h = grind (arith, nat_tests, h)

given_next : (count n : ℕ) → n ≡ count + 1 → is_given (count + 1) n ≡ true
given_next count n e = grind (arith, nat_tests, e)

pub puts_keep_numbers : (V : Type 0) → PutsKeepNumbers V
puts_keep_numbers V number count rows name value are next = record {
  given = all_put (λ v. is_given (count + 1) (number v)) (key_of name) value rows
      (all_wider (λ v. is_given count (number v)) (λ v. is_given (count + 1) (number v)) (λ v. given_more count (number v)) rows are.given)
      (given_next count (number value) next);
  distinct = distinct_put number (key_of name) value rows are.distinct (subst (λ n. IsFree number n rows) (sym next) (next_free number count rows are.given));
}

pub outs_keep_numbers : (V : Type 0) → OutsKeepNumbers V
outs_keep_numbers V number count rows name are = record {
  given = all_out (λ v. is_given count (number v)) (is_key (key_of name)) rows are.given;
  distinct = distinct_out number (is_key (key_of name)) rows are.distinct;
}

abbrev under : (List ℕ → List ℕ) → Rows ℕ → Rows ℕ
under g rows = collected (map (λ row. (g row.0, row.1)) rows)

all_under : (p : ℕ → Bool) (g : List ℕ → List ℕ) (rows : Rows ℕ) → list_all (λ row. p row.1) rows ≡ true → list_all (λ row. p row.1) (under g rows) ≡ true
all_under p g [] h = refl
all_under p g (row ∷ rows) h =
    let parts = and_parts (p row.1) (list_all (λ row. p row.1) rows) h in
    all_put p (g row.0) row.1 (under g rows) (all_under p g rows parts.1) parts.0

free_under : (n : ℕ) (g : List ℕ → List ℕ) (rows : Rows ℕ) → IsFree (λ m. m) n rows → IsFree (λ m. m) n (under g rows)
free_under n g [] h = tt
free_under n g (row ∷ rows) h = free_put (λ m. m) n (g row.0) row.1 (under g rows) (free_under n g rows h.1) h.0

distinct_under : (g : List ℕ → List ℕ) (rows : Rows ℕ) → IsDistinct nat_eq (numbers (λ m. m) rows) → IsDistinct nat_eq (numbers (λ m. m) (under g rows))
unfolding IsDistinct
distinct_under g [] h = tt
distinct_under g (row ∷ rows) h =
    distinct_put (λ m. m) (g row.0) row.1 (under g rows) (distinct_under g rows h.1) (free_under row.1 g rows h.0)

pub renames_keep_numbers : RenamesKeepNumbers
renames_keep_numbers count rows old new are = record {
  given = all_under (λ n. is_given count n) (renamed_key (key_of old) (key_of new)) rows are.given;
  distinct = distinct_under (renamed_key (key_of old) (key_of new)) rows are.distinct;
}
