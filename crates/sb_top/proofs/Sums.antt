-- Sums over the numbers below a limit, and how elements of a list are counted by disjoint tests.
use Rattle.std.proofs.Common.{◌≡◌, ◌∙◌, refl, ap, sym, ℕ, zero, suc, ◌+◌, ◌<◌, ◌≤◌, Bool, true, false, cond, ◌&&◌, List, [], ◌∷◌, length, get_or, Some, slice_get, arith}
use Rattle.std.specs.List.{filter, sum_by, count_by}
use Rattle.std.proofs.lemmas.List.Sums.{sum_by-cons}

-- the sum of f over the numbers below n
abbrev pub upto : ℕ → (ℕ → ℕ) → ℕ
upto zero f = 0
upto (suc n) f = f 0 + upto n (λ i. f (suc i))

pub same_upto : (n : ℕ) (f g : ℕ → ℕ) → ((i : ℕ) → i < n → f i ≡ g i) → upto n f ≡ upto n g
same_upto zero f g h = refl
same_upto (suc n) f g h =
    let first : f 0 ≡ g 0 = h 0 (omega arith) in
    let rest = same_upto n (λ i. f (suc i)) (λ i. g (suc i)) (λ i l. h (suc i) (omega (arith, l))) in
    (λ i. first i + rest i)

pub both_upto : (n : ℕ) (f g : ℕ → ℕ) → upto n (λ i. f i + g i) ≡ upto n f + upto n g
both_upto zero f g = refl
both_upto (suc n) f g =
    let rest = both_upto n (λ i. f (suc i)) (λ i. g (suc i)) in
    ap (λ z. f 0 + g 0 + z) rest ∙ swap (f 0) (g 0) (upto n (λ i. f (suc i))) (upto n (λ i. g (suc i)))
  where
    swap : (a b c d : ℕ) → a + b + (c + d) ≡ a + c + (b + d)
    swap a b c d = omega arith

pub none_upto : (n : ℕ) (f : ℕ → ℕ) → ((i : ℕ) → i < n → f i ≡ 0) → upto n f ≡ 0
none_upto zero f h = refl
none_upto (suc n) f h =
    let first : f 0 ≡ 0 = h 0 (omega arith) in
    let rest = none_upto n (λ i. f (suc i)) (λ i l. h (suc i) (omega (arith, l))) in
    (λ i. first i + rest i)

-- if all others are 0, the sum is the one
pub one_upto : (n m : ℕ) (f : ℕ → ℕ) → m < n → ((i : ℕ) → i < n → (i ≡ m → ⊥) → f i ≡ 0) → upto n f ≡ f m
one_upto zero m f l h = absurd (omega (arith, l))
one_upto (suc n) zero f l h =
    let rest = none_upto n (λ i. f (suc i)) (λ i l. h (suc i) (omega (arith, l)) (λ e. absurd (omega (arith, e)))) in
    ap (λ z. f 0 + z) rest ∙ plain (f 0)
  where
    plain : (a : ℕ) → a + 0 ≡ a
    plain a = omega arith
one_upto (suc n) (suc m) f l h =
    let first : f 0 ≡ 0 = h 0 (omega arith) (λ e. absurd (omega (arith, e))) in
    let rest = one_upto n m (λ i. f (suc i)) (omega (arith, l)) (λ i k other. h (suc i) (omega (arith, k)) (λ e. other (omega (arith, e)))) in
    (λ i. first i + rest i) ∙ plain (f (suc m))
  where
    plain : (a : ℕ) → 0 + a ≡ a
    plain a = omega arith

-- two sums of sums
pub same_both : (n m : ℕ) (a b : ℕ → ℕ) (f g : ℕ → ℕ → ℕ) → n ≡ m → ((t : ℕ) → t < m → a t ≡ b t) → ((t k : ℕ) → t < m → k < b t → f t k ≡ g t k)
    → upto n (λ t. upto (a t) (f t)) ≡ upto m (λ t. upto (b t) (g t))
same_both n m a b f g e bounds h =
    ap (λ z. upto z (λ t. upto (a t) (f t))) e
    ∙ same_upto m (λ t. upto (a t) (f t)) (λ t. upto (b t) (g t))
    (λ t l. ap (λ z. upto z (f t)) (bounds t l) ∙ same_upto (b t) (f t) (g t) (λ k. h t k l))

-- ---- lists

-- 1 if a test holds, and 0 if it does not
abbrev pub tally : Bool → ℕ
tally b = cond b 1 0

pub sum_list : {X : Type 0} (f : X → ℕ) (xs : List X) (d : X) → sum_by f xs ≡ upto (length xs) (λ i. f (get_or xs i d))
sum_list f [] d = refl
sum_list f (x ∷ xs) d = sum_by-cons f x xs ∙ ap (λ z. f x + z) (sum_list f xs d)

pub count_first : {X : Type 0} (p : X → Bool) (x : X) (xs : List X) → count_by p (x ∷ xs) ≡ tally (p x) + count_by p xs
count_first p x xs = sum_by-cons (λ y. tally (p y)) x xs

-- the first of a list that is filtered and counted
filtered : {X : Type 0} (p such : X → Bool) (x : X) (xs : List X) → count_by such (filter p (x ∷ xs)) ≡ tally (p x && such x) + count_by such (filter p xs)
filtered p such x xs = by (p x)
  where
    by : (b : Bool) → count_by such (cond b (x ∷ filter p xs) (filter p xs)) ≡ tally (b && such x) + count_by such (filter p xs)
    by true = count_first such x (filter p xs)
    by false = plain (count_by such (filter p xs))
      where
        plain : (a : ℕ) → a ≡ 0 + a
        plain a = omega arith

-- exactly one pair (t, k) of numbers below limits has the element, by a test
abbrev pub Placed : {X : Type 0} → (ℕ → ℕ → X → Bool) → ℕ → (ℕ → ℕ) → X → Type 0
Placed p most mosts x = (t : ℕ) × (k : ℕ) × (t < most) × (k < mosts t) × (p t k x ≡ true) × ((u j : ℕ) → p u j x ≡ true → (u ≡ t) × (j ≡ k))

module _ {X : Type 0} (such : X → Bool) (p : ℕ → ℕ → X → Bool) (most : ℕ) (mosts : ℕ → ℕ) where
  off : (x : X) (t k : ℕ) → (p t k x ≡ true → ⊥) → tally (p t k x && such x) ≡ 0
  off x t k h = by (p t k x) h
    where
      by : (b : Bool) → (b ≡ true → ⊥) → tally (b && such x) ≡ 0
      by true h = absurd (h refl)
      by false h = refl

  once : (x : X) → Placed p most mosts x → upto most (λ t. upto (mosts t) (λ k. tally (p t k x && such x))) ≡ tally (such x)
  once x h =
      one_upto most h.0 (λ t. upto (mosts t) (λ k. tally (p t k x && such x))) h.2
      (λ u a other. none_upto (mosts u) (λ k. tally (p u k x && such x)) (λ j b. off x u j (λ e. other (h.5 u j e).0)))
      ∙ (one_upto (mosts h.0) h.1 (λ k. tally (p h.0 k x && such x)) h.3 (λ j b other. off x h.0 j (λ e. other (h.5 h.0 j e).1))
      ∙ ap (λ b. tally (b && such x)) h.4)

  abbrev one_of : X → ℕ → ℕ → ℕ
  one_of x t k = tally (p t k x && such x)

  abbrev more_of : List X → ℕ → ℕ → ℕ
  more_of xs t k = count_by such (filter (p t k) xs)

  -- if each element is in exactly one, all are counted by counting each
  pub counted_once : (xs : List X) → ((i : ℕ) (x : X) → slice_get xs i ≡ Some x → Placed p most mosts x)
      → count_by such xs ≡ upto most (λ t. upto (mosts t) (more_of xs t))
  counted_once [] h = sym (none_upto most (λ t. upto (mosts t) (λ k. 0)) (λ t l. none_upto (mosts t) (λ k. 0) (λ k m. refl)))
  counted_once (x ∷ xs) h =
      let rest = counted_once xs (λ i. h (suc i)) in
      let here = once x (h 0 x refl) in
      count_first such x xs
      ∙ ((λ i. sym here i + rest i)
      ∙ (sym (both_upto most (λ t. upto (mosts t) (one_of x t)) (λ t. upto (mosts t) (more_of xs t)))
      ∙ same_upto most (λ t. upto (mosts t) (one_of x t) + upto (mosts t) (more_of xs t)) (λ t. upto (mosts t) (more_of (x ∷ xs) t))
      (λ t l. sym (both_upto (mosts t) (one_of x t) (more_of xs t))
      ∙ same_upto (mosts t) (λ k. one_of x t k + more_of xs t k) (more_of (x ∷ xs) t) (λ k m. sym (filtered (p t k) such x xs)))))

-- a list whose places are below a limit is not longer
pub within_length : {X : Type 0} (xs : List X) (n : ℕ) → ((i : ℕ) (x : X) → slice_get xs i ≡ Some x → i < n) → length xs ≤ n
within_length [] n h = omega arith
within_length (x ∷ xs) zero h = absurd (let l = h 0 x refl in omega (arith, l))
within_length (x ∷ xs) (suc n) h =
    let rest = within_length xs n (λ i y e. let l = h (suc i) y e in omega (arith, l)) in
    omega (arith, rest)
