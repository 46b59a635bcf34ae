-- The nodes from one on, and how many they are.
use Rattle.std.proofs.Common.{◌≡◌, ℕ, ◌+◌, ◌<◌, ◌≤◌, ◌==◌, Bool, true, false, cond, zero, suc, refl, sym, ◌∙◌, ap, arith, List, [], ◌∷◌, length}
use Rattle.std.proofs.lemmas.Bool.Decides.{nat_tests}
use Rattle.std.proofs.lemmas.Bool.{false≢true}
use Rattle.std.specs.Prelude.{Option, None, Some, ◌||◌}
use Rattle.sb_arena.specs.Forests.{has, Single}
use Rattle.sb_arena.specs.declared.links.Link.{Link}
use Rattle.sb_arena.specs.Links.{Hangs, chain}

-- what is linked is what a walk gives
pub walked : (g : ℕ → Link) (n k : ℕ) (b here : Option ℕ) (xs : List ℕ) (l : Option ℕ)
    → Hangs g n b here xs l → length xs ≤ k → chain k g here ≡ xs
walked g n zero b here [] l h s = refl
walked g n (suc k) b here [] l h s = rw h.0 refl
walked g n zero b here (x ∷ xs) l h s = absurd (omega arith)
walked g n (suc k) b here (x ∷ xs) l h s = rw h.0 (ap (λ r. x ∷ r) (walked g n k (Some x) (g x).next xs l h.3 (omega arith)))

-- each of a list is below
abbrev pub Below : ℕ → List ℕ → Type 0
Below k [] = Unit {0}
Below k (x ∷ xs) = (x < k) × Below k xs

abbrev without : ℕ → List ℕ → List ℕ
without n [] = []
without n (x ∷ xs) = cond (x == n) xs (x ∷ without n xs)

without_short : (n : ℕ) (xs : List ℕ) → length xs ≤ length (without n xs) + 1
without_short n [] = omega arith
without_short n (x ∷ xs) = by (x == n) (without_short n xs)
  where
    by : (b : Bool) → length xs ≤ length (without n xs) + 1 → length (x ∷ xs) ≤ length (cond b xs (x ∷ without n xs)) + 1
    by true h = omega arith
    by false h = omega arith

without_has : (n m : ℕ) (xs : List ℕ) → has m xs ≡ false → has m (without n xs) ≡ false
without_has n m [] h = refl
without_has n m (x ∷ xs) h = by (x == n) (x == m) refl h (without_has n m xs)
  where
    by : (b t : Bool) → (x == m) ≡ t → (t || has m xs) ≡ false → (has m xs ≡ false → has m (without n xs) ≡ false) → has m (cond b xs (x ∷ without n xs)) ≡ false
    by true true e h f = absurd (cc)
    by true false e h f = h
    by false true e h f = absurd (cc)
    by false false e h f = rw e (f h)

without_single : (n : ℕ) (xs : List ℕ) → Single xs → Single (without n xs)
without_single n [] s = tt
without_single n (x ∷ xs) s = by (x == n) (without_single n xs s.1)
  where
    by : (b : Bool) → Single (without n xs) → Single (cond b xs (x ∷ without n xs))
    by true r = s.1
    by false r = (without_has n x xs s.0, r)

below_less : (k : ℕ) (xs : List ℕ) → Below (suc k) xs → has k xs ≡ false → Below k xs
below_less k [] b h = tt
below_less k (x ∷ xs) b h =
    let t : (x == k) ≡ false = grind (arith, h) in
    let r : has k xs ≡ false = grind (arith, h) in
    (grind (arith, nat_tests, t, b.0), below_less k xs b.1 r)

below_without : (k : ℕ) (xs : List ℕ) → Below (suc k) xs → Single xs → Below k (without k xs)
below_without k [] b s = tt
below_without k (x ∷ xs) b s = by (x == k) refl (below_without k xs b.1 s.1)
  where
    by : (t : Bool) → t ≡ (x == k) → Below k (without k xs) → Below k (cond t xs (x ∷ without k xs))
    by true e r =
        let w : x ≡ k = grind (arith, nat_tests, e) in
        below_less k xs b.1 (ap (λ u. has u xs) (sym w) ∙ s.0)
    by false e r = (grind (arith, nat_tests, e, b.0), r)

-- single numbers below k are at most k
pub few : (k : ℕ) (xs : List ℕ) → Single xs → Below k xs → length xs ≤ k
few zero [] s b = omega arith
few zero (x ∷ xs) s b = absurd (omega (arith, b.0))
few (suc k) xs s b = omega (arith, few k (without k xs) (without_single k xs s) (below_without k xs b s), without_short k xs)

abbrev has_some : Option ℕ → List ℕ → Bool
has_some None xs = false
has_some (Some y) xs = has y xs

has_more : (o : Option ℕ) (w : ℕ) (xs : List ℕ) → has_some o xs ≡ true → has_some o (w ∷ xs) ≡ true
has_more None w xs h = h
has_more (Some y) w xs h = by (w == y)
  where
    by : (b : Bool) → (b || has y xs) ≡ true
    by true = refl
    by false = h

-- the one before a node that is linked is there too
before_in : (g : ℕ → Link) (n w : ℕ) (here : Option ℕ) (xs : List ℕ) (l : Option ℕ) (z : ℕ)
    → Hangs g n (Some w) here xs l → has z xs ≡ true → has_some (g z).prev (w ∷ xs) ≡ true
before_in g n w here [] l z h t = absurd (false≢true t)
before_in g n w here (x ∷ xs) l z h t = by (x == z) refl t (λ r. has_more (g z).prev w (x ∷ xs) (before_in g n x (g x).next xs l z h.3 r))
  where
    by : (b : Bool) → b ≡ (x == z) → (b || has z xs) ≡ true → (has z xs ≡ true → has_some (g z).prev (w ∷ x ∷ xs) ≡ true) → has_some (g z).prev (w ∷ x ∷ xs) ≡ true
    by true e t f =
        let s : x ≡ z = grind (arith, nat_tests, e) in
        let o : (g z).prev ≡ Some w = ap (λ u. (g u).prev) (sym s) ∙ h.2 in
        let r : (w == w) ≡ true = grind (arith, nat_tests) in
        rw (o, r) refl
    by false e t f = f t

-- what is linked is there once
pub once : (g : ℕ → Link) (n : ℕ) (b here : Option ℕ) (xs : List ℕ) (l : Option ℕ)
    → has_some b xs ≡ false → Hangs g n b here xs l → Single xs
once g n b here [] l t h = tt
once g n b here (x ∷ xs) l t h = by (has x xs) refl (λ r. once g n (Some x) (g x).next xs l r h.3)
  where
    by : (s : Bool) → has x xs ≡ s → (has x xs ≡ false → Single xs) → (has x xs ≡ false) × Single xs
    by true e f =
        let got : has_some (g x).prev (x ∷ xs) ≡ true = before_in g n x (g x).next xs l x h.3 e in
        absurd (false≢true (sym t ∙ ap (λ o. has_some o (x ∷ xs)) (sym h.2) ∙ got))
    by false e f = (e, f e)

pub below : (g : ℕ → Link) (n k : ℕ) → ((x : ℕ) → (g x).parent ≡ Some n → x < k)
    → (b here : Option ℕ) (xs : List ℕ) (l : Option ℕ) → Hangs g n b here xs l → Below k xs
below g n k f b here [] l h = tt
below g n k f b here (x ∷ xs) l h = (f x h.1, below g n k f (Some x) (g x).next xs l h.3)

-- what is linked is all that a walk of enough steps gives
pub settled : (g : ℕ → Link) (n k : ℕ) → ((x : ℕ) → (g x).parent ≡ Some n → x < k)
    → (here : Option ℕ) (xs : List ℕ) (l : Option ℕ) → Hangs g n None here xs l → chain k g here ≡ xs
settled g n k f here xs l h = walked g n k None here xs l h (few k xs (once g n None here xs l (refl_false xs) h) (below g n k f None here xs l h))
  where
    refl_false : (xs : List ℕ) → has_some None xs ≡ false
    refl_false xs = refl
