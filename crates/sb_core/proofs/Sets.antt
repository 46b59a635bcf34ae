-- Lists with one element set.
use Rattle.std.proofs.Common.{◌≡◌, ℕ, zero, suc, ◌<◌, List, [], ◌∷◌, arith, length, length-set, set, get_or, get_or-set_same, get_or-set_other, subst, sym, ap, ◌∙◌, ◌⊎◌, inl, inr, ⊎_elim, refl, Bool, true, ◌++◌, Option, None, Some, slice_get, ◌≢◌}
use mathlib.Core.Option.{some, some-ne-none}
use lib.ListN.{get_elem?}
use Rattle.sb_core.proofs.Names.{and_parts, list_all, option_to_list, set-get_or, words_of, ℕ_discrete}

-- an element set to what it was
pub set_same : {X : Type 0} (xs : List X) (i : ℕ) (x d : X) → x ≡ get_or xs i d → set xs i x ≡ xs
set_same xs i x d e = subst (λ y. set xs i y ≡ xs) (sym e) (set-get_or xs i d)

-- an element of a list with one more after it
pub behind : {X : Type 0} (xs : List X) (o : Option X) (i : ℕ) (x : X) → slice_get (xs ++ option_to_list o) i ≡ Some x
    → (slice_get xs i ≡ Some x) ⊎ ((i ≡ length xs) × (o ≡ Some x))
behind [] None zero x e = absurd (cc)
behind [] None (suc i) x e = absurd (cc)
behind [] (Some y) zero x e = inr (refl, e)
behind [] (Some y) (suc i) x e = absurd (cc)
behind (y ∷ xs) o zero x e = inl e
behind (y ∷ xs) o (suc i) x e = ⊎_elim (λ h. inl h) (λ h. inr (ap suc h.0, h.1)) (behind xs o i x e)

-- what holds of all holds of one
pub one_of_all : {X : Type 0} (p : X → Bool) (xs : List X) (i : ℕ) (x : X) → list_all p xs ≡ true → slice_get xs i ≡ Some x → p x ≡ true
one_of_all p [] i x h e = absurd (cc)
one_of_all p (y ∷ ys) zero x h e = let same : y ≡ x = cc in subst (λ z. p z ≡ true) same (and_parts (p y) (list_all p ys) h).0
one_of_all p (y ∷ ys) (suc i) x h e = one_of_all p ys i x (and_parts (p y) (list_all p ys) h).1 e

-- the element at a place, whatever the default
pub at_place : {X : Type 0} (xs : List X) (i : ℕ) (x d : X) → i < length xs → x ≡ get_or xs i x → x ≡ get_or xs i d
at_place [] i x d l e = absurd (omega arith)
at_place (y ∷ ys) zero x d l e = e
at_place (y ∷ ys) (suc i) x d l e = at_place ys i x d (omega (arith, l)) e

-- the words of a target replaced by a list of the same length
pub sizes_set : (words : List (List ℕ)) (t : ℕ) (new : List ℕ) → t < length words → length new ≡ length (words_of words t)
    → (u : ℕ) → length (words_of (set words t new) u) ≡ length (words_of words u)
sizes_set words t new l e u = by_place (ℕ_discrete u t)
  where
    by_place : Dec (u ≡ t) → length (words_of (set words t new) u) ≡ length (words_of words u)
    by_place (yes s) =
        subst (λ z. length (words_of (set words t new) z) ≡ length (words_of words z)) (sym s)
        (ap (λ (ws : List ℕ). length ws) (get_or-set_same words t new [] l) ∙ e)
    by_place (no n) = ap (λ (ws : List ℕ). length ws) (get_or-set_other words t u new [] n)

-- one element of one of several lists set: what holds of each element, and of the new one, holds of each
module _ {X : Type 0} (P : ℕ → ℕ → X → Type 0) (d : X) (lists : List (List X)) (t k : ℕ) (y : X) (here : t < length lists) (there : k < length (get_or lists t [])) where
  abbrev row : List X
  row = get_or lists t []

  in_row : ((j : ℕ) → j < length row → P t j (get_or row j d)) → P t k y → (j : ℕ) → j < length row → Dec (j ≡ k) → P t j (get_or (set row k y) j d)
  in_row each new j l (yes s) =
      subst (λ z. P t z (get_or (set row k y) z d)) (sym s) (subst (λ z. P t k z) (sym (get_or-set_same row k y d there)) new)
  in_row each new j l (no n) = subst (λ z. P t j z) (sym (get_or-set_other row k j y d n)) (each j l)

  pub each_set : ((u j : ℕ) → j < length (get_or lists u []) → P u j (get_or (get_or lists u []) j d)) → P t k y
      → (u j : ℕ) → j < length (get_or (set lists t (set row k y)) u []) → P u j (get_or (get_or (set lists t (set row k y)) u []) j d)
  each_set each new u j l = by_place (ℕ_discrete u t) l
    where
      by_place : Dec (u ≡ t) → j < length (get_or (set lists t (set row k y)) u []) → P u j (get_or (get_or (set lists t (set row k y)) u []) j d)
      by_place (yes s) l =
          subst (λ z. j < length (get_or (set lists t (set row k y)) z []) → P z j (get_or (get_or (set lists t (set row k y)) z []) j d)) (sym s)
          (λ m. subst (λ (r : List X). j < length r → P t j (get_or r j d)) (sym (get_or-set_same lists t (set row k y) [] here))
          (λ q. in_row (each t) new j (subst (λ n. j < n) (length-set row k y) q) (ℕ_discrete j k)) m) l
      by_place (no n) l =
          subst (λ (r : List X). j < length r → P u j (get_or r j d)) (sym (get_or-set_other lists t u (set row k y) [] n)) (each u j) l

  -- and each list stays as long
  pub lengths_set : (u : ℕ) → length (get_or (set lists t (set row k y)) u []) ≡ length (get_or lists u [])
  lengths_set u = by_place (ℕ_discrete u t)
    where
      by_place : Dec (u ≡ t) → length (get_or (set lists t (set row k y)) u []) ≡ length (get_or lists u [])
      by_place (yes s) =
          subst (λ z. length (get_or (set lists t (set row k y)) z []) ≡ length (get_or lists z [])) (sym s)
          (ap (λ (r : List X). length r) (get_or-set_same lists t (set row k y) [] here) ∙ length-set row k y)
      by_place (no n) = ap (λ (r : List X). length r) (get_or-set_other lists t u (set row k y) [] n)

-- elements by their places
module _ {A : Type 0} where
  pub set_here : (l : List A) (i : ℕ) (a b : A) → get_elem? l i ≡ some b → get_elem? (set l i a) i ≡ some a
  set_here [] i a b e = absurd (some-ne-none b (sym e))
  set_here (x ∷ xs) zero a b e = refl
  set_here (x ∷ xs) (suc i) a b e = set_here xs i a b e

  pub set_else : (l : List A) (i j : ℕ) (a : A) → j ≢ i → get_elem? (set l i a) j ≡ get_elem? l j
  set_else [] i j a n = refl
  set_else (x ∷ xs) zero zero a n = absurd (n refl)
  set_else (x ∷ xs) zero (suc j) a n = refl
  set_else (x ∷ xs) (suc i) zero a n = refl
  set_else (x ∷ xs) (suc i) (suc j) a n = set_else xs i j a (λ e. n (ap suc e))

  pub at_longer : (l m : List A) (i : ℕ) (a : A) → get_elem? l i ≡ some a → get_elem? (l ++ m) i ≡ some a
  at_longer [] m i a e = absurd (some-ne-none a (sym e))
  at_longer (x ∷ xs) m zero a e = e
  at_longer (x ∷ xs) m (suc i) a e = at_longer xs m i a e

  pub at_end : (l : List A) (a : A) → get_elem? (l ++ a ∷ []) (length l) ≡ some a
  at_end [] a = refl
  at_end (x ∷ xs) a = at_end xs a
