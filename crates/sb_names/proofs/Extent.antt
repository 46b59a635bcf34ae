-- Rows in rising order are told apart by what is found in them.
use Rattle.std.proofs.Common.{◌≡◌, ℕ, Bool, true, false, cond, refl, sym, ◌∙◌, ap, List, [], ◌∷◌}
use Rattle.std.proofs.lemmas.Bool.{false≢true}
use Rattle.std.specs.Prelude.{Option, Some, None, is_some}
use Rattle.std.specs.Map.{lookup, keys_of}
use Rattle.std.specs.List.Sorted.{IsStrictlySortedBy}
use Rattle.std.specs.declared.cmp.Ordering.{Ordering}
use Rattle.std.specs.declared.cmp.Ordering.TheVariants.{Less, Equal, Greater}
use Rattle.std.specs.Cmp.Lexicographic.{nat_list_cmp_total}
use Rattle.std.proofs.lemmas.Map.{lookup-none}
use Rattle.std.proofs.lemmas.Map.Entries.{none_below_head}
use Rattle.std.proofs.lemmas.Map.Keys.{sorted_tail}
use Rattle.sb_names.specs.Maps.{Rows, Rises, is_key}
use Rattle.sb_names.proofs.MapLaws.{own_test, is_key_eq}
use Rattle.sb_names.proofs.RisingLemmas.{by_unit, key_test, other_way, equal_keys}

module _ {V : Type 0} where
  -- below the first row there is nothing
  none_below : (key : List ℕ) (row : List ℕ × V) (rows : Rows V) → Rises (row ∷ rows) → by_unit key row.0 ≡ Less → lookup (is_key key) (row ∷ rows) ≡ None
  none_below key row rows r e =
      ap (λ test. lookup test (row ∷ rows)) (λ i k. key_test key k i) ∙ lookup-none _ (row ∷ rows) (none_below_head nat_list_cmp_total key row rows r e)

  head_below : (x y : List ℕ × V) (ys : Rows V) → Rises (x ∷ y ∷ ys) → by_unit x.0 y.0 ≡ Less
  unfolding IsStrictlySortedBy
  head_below x y ys r = r.0.0

  -- the first key is that of no later row
  none_later : (x : List ℕ × V) (xs : Rows V) → Rises (x ∷ xs) → lookup (is_key x.0) xs ≡ None
  none_later x [] r = refl
  none_later x (y ∷ ys) r = none_below x.0 y ys (sorted_tail by_unit x.0 (keys_of (y ∷ ys)) r) (head_below x y ys r)

  own_row : (x : List ℕ × V) (xs : Rows V) → lookup (is_key x.0) (x ∷ xs) ≡ Some x.1
  own_row x xs = rw (own_test x.0) refl

  not_both : (v : V) → None ≡ Some v → ⊥
  not_both v e = false≢true (ap is_some e)

  abbrev value_of : V → Option V → V
  value_of d None = d
  value_of d (Some v) = v

  -- what is found after the first row
  behind : (x : List ℕ × V) (xs : Rows V) (key : List ℕ) → Rises (x ∷ xs)
      → lookup (is_key key) xs ≡ cond (is_key key x.0) None (lookup (is_key key) (x ∷ xs))
  behind x xs key r = by (is_key key x.0) refl
    where
      by : (b : Bool) → is_key key x.0 ≡ b → lookup (is_key key) xs ≡ cond b None (cond b (Some x.1) (lookup (is_key key) xs))
      by true e = ap (λ k. lookup (is_key k) xs) (is_key_eq key x.0 e) ∙ none_later x xs r
      by false e = refl

  pub same_rows : (a b : Rows V) → Rises a → Rises b → ((key : List ℕ) → lookup (is_key key) a ≡ lookup (is_key key) b) → a ≡ b
  same_rows [] [] ra rb h = refl
  same_rows [] (y ∷ ys) ra rb h = absurd (not_both y.1 (h y.0 ∙ own_row y ys))
  same_rows (x ∷ xs) [] ra rb h = absurd (not_both x.1 (sym (h x.0) ∙ own_row x xs))
  same_rows (x ∷ xs) (y ∷ ys) ra rb h =
      by (by_unit x.0 y.0) refl (λ later. same_rows xs ys (sorted_tail by_unit x.0 (keys_of xs) ra) (sorted_tail by_unit y.0 (keys_of ys) rb) later)
    where
      by : (o : Ordering) → by_unit x.0 y.0 ≡ o → (((key : List ℕ) → lookup (is_key key) xs ≡ lookup (is_key key) ys) → xs ≡ ys) → x ∷ xs ≡ y ∷ ys
      by Less e again = absurd (not_both x.1 (sym (none_below x.0 y ys rb e) ∙ sym (h x.0) ∙ own_row x xs))
      by Greater e again = absurd (not_both y.1 (sym (none_below y.0 x xs ra (other_way x.0 y.0 Greater e)) ∙ h y.0 ∙ own_row y ys))
      by Equal e again =
          let key : x.0 ≡ y.0 = equal_keys x.0 y.0 e in
          let value : x.1 ≡ y.1 =
          ap (value_of x.1) (sym (own_row x xs) ∙ h x.0 ∙ ap (λ k. lookup (is_key k) (y ∷ ys)) key ∙ own_row y ys) in
          let later : (k : List ℕ) → lookup (is_key k) xs ≡ lookup (is_key k) ys =
          λ k. behind x xs k ra ∙ (λ i. cond (is_key k (key i)) None (h k i)) ∙ sym (behind y ys k rb) in
          λ i. (key i, value i) ∷ again later i
