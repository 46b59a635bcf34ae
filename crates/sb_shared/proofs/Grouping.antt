-- One list cut into several, and lists joined to one.
use Rattle.std.proofs.Common.{◌≡◌, ◌∙◌, ◌⊎◌, inl, inr, ⊎_elim, refl, ap, sym, ℕ, zero, suc, ◌+◌, ◌<◌, ◌++◌, List, [], ◌∷◌, map, length, arith, flat_map}
use Rattle.std.proofs.lemmas.List.{drop_at, length-map, map-append, take_at}
use mathlib.Core.Option as raw
use mathlib.Core.Option.{some-injective, some-ne-none}
use lib.ListN.{get_elem?}
use Rattle.sb_shared.specs.Rooms.{grouped}

-- lists one after another
abbrev pub joined : {A : Type 0} → List (List A) → List A
joined xss = flat_map (λ xs. xs) xss

pub grouped_joined : {A : Type 0} (xss : List (List A)) → grouped (map (λ xs. length xs) xss) (joined xss) ≡ xss
grouped_joined [] = refl
grouped_joined (xs ∷ xss) = λ i. take_at xs (joined xss) (length xs) refl i ∷ (ap (λ l. grouped (map (λ ys. length ys) xss) l) (drop_at xs (joined xss) (length xs) refl) ∙ grouped_joined xss) i

pub map_joined : {A B : Type 0} (f : A → B) (xss : List (List A)) → map f (joined xss) ≡ joined (map (λ xs. map f xs) xss)
map_joined f [] = refl
map_joined f (xs ∷ xss) = map-append f xs (joined xss) ∙ ap (λ l. map f xs ++ l) (map_joined f xss)

pub same_lengths : {A B : Type 0} (f : A → B) (xss : List (List A)) → map (λ xs. length xs) (map (λ xs. map f xs) xss) ≡ map (λ xs. length xs) xss
same_lengths f [] = refl
same_lengths f (xs ∷ xss) = λ i. length-map xs f i ∷ same_lengths f xss i

-- elements by their places
module _ {A : Type 0} where
  pub below_of : (l : List A) (i : ℕ) (a : A) → get_elem? l i ≡ raw.some a → i < length l
  below_of [] i a e = absurd (some-ne-none a (sym e))
  below_of (x ∷ xs) zero a e = omega arith
  below_of (x ∷ xs) (suc i) a e = let h = below_of xs i a e in omega arith

  pub at_left : (l m : List A) (n : ℕ) (a : A) → get_elem? l n ≡ raw.some a → get_elem? (l ++ m) n ≡ raw.some a
  at_left [] m n a e = absurd (some-ne-none a (sym e))
  at_left (x ∷ l) m zero a e = e
  at_left (x ∷ l) m (suc n) a e = at_left l m n a e

  pub at_right : (l m : List A) (n : ℕ) (a : A) → get_elem? m n ≡ raw.some a → get_elem? (l ++ m) (length l + n) ≡ raw.some a
  at_right [] m n a e = ap (get_elem? m) (omega arith) ∙ e
  at_right (x ∷ l) m n a e = let same : suc (length l) + n ≡ suc (length l + n) = omega arith in ap (get_elem? (x ∷ (l ++ m))) same ∙ at_right l m n a e

  pub at_joined : (l m : List A) (i : ℕ) (a : A) → get_elem? (l ++ m) i ≡ raw.some a → (get_elem? l i ≡ raw.some a) ⊎ ((k : ℕ) × (i ≡ length l + k) × (get_elem? m k ≡ raw.some a))
  at_joined [] m i a e = inr (i, omega arith, e)
  at_joined (x ∷ xs) m zero a e = inl e
  at_joined (x ∷ xs) m (suc i) a e = ⊎_elim (λ t. inl t) (λ t. let n = t.1 in inr (t.0, omega (arith, n), t.2)) (at_joined xs m i a e)

  pub at_end : (l : List A) (a b : A) (j : ℕ) → get_elem? (l ++ a ∷ []) j ≡ raw.some b → (get_elem? l j ≡ raw.some b) ⊎ ((j ≡ length l) × (a ≡ b))
  at_end [] a b zero e = inr (refl, some-injective a b e)
  at_end [] a b (suc j) e = absurd (some-ne-none b (sym e))
  at_end (x ∷ xs) a b zero e = inl e
  at_end (x ∷ xs) a b (suc j) e = ⊎_elim (λ t. inl t) (λ t. inr (ap suc t.0, t.1)) (at_end xs a b j e)
