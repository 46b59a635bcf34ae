-- The actors of a script, one after another.
use Rattle.std.proofs.Common.{◌≡◌, ◌≢◌, ◌∙◌, refl, ap, subst, sym, ⊎_elim, ℕ, zero, suc, ◌+◌, ◌<◌, ◌≤◌, ◌++◌, true, List, [], ◌∷◌, map, length, get_or, slice_get, Some, arith}
use Rattle.std.proofs.lemmas.List.{map-append}
use Rattle.std.proofs.lemmas.Bool.Decides.{nat_tests}
use Rattle.std.specs.List.{range_with_len}
use mathlib.Core.List.{map-map}
use mathlib.Core.Option as raw
use mathlib.Core.Option.{some-injective, some-ne-none}
use lib.ListN.{get_elem?}
use Rattle.sb_statements.specs.Actors.{is_there, thread_count}
use Rattle.sb_statements.specs.declared.schedules.Actor.{Actor}
use Rattle.sb_statements.specs.declared.schedules.Actor.TheVariants.{Worker, Thread}
use Rattle.sb_statements.specs.declared.scripts.TargetScript.{TargetScript}
use Rattle.sb_shared.specs.Opening.{all_actors, places_from, target_places, thread_of, thread_places}
use Rattle.sb_shared.proofs.Grouping.{at_joined, joined}

pub at_mapped : {A B : Type 0} (f : A → B) (l : List A) (n : ℕ) (b : B) → get_elem? (map f l) n ≡ raw.some b → (a : A) × (get_elem? l n ≡ raw.some a) × (b ≡ f a)
at_mapped f [] n b e = absurd (some-ne-none b (sym e))
at_mapped f (x ∷ xs) zero b e = (x, refl, sym (some-injective (f x) b e))
at_mapped f (x ∷ xs) (suc n) b e = at_mapped f xs n b e

pub number_is : (t m n u : ℕ) → get_elem? (range_with_len t m) n ≡ raw.some u → (u ≡ t + n) × (n < m)
number_is t zero n u e = absurd (some-ne-none u (sym e))
number_is t (suc m) zero u e = (sym (some-injective t u e) ∙ omega arith, omega arith)
number_is t (suc m) (suc n) u e = let h = number_is (t + 1) m n u e in let a = h.0 in let b = h.1 in (omega (arith, a), omega (arith, b))

-- the threads of one target
abbrev row : ℕ → ℕ → List (ℕ × ℕ)
row t m = map (λ k. (t, k)) (range_with_len 0 m)

pair_is : (t m n : ℕ) (p : ℕ × ℕ) → get_elem? (row t m) n ≡ raw.some p → (p ≡ (t, n)) × (n < m)
pair_is t m n p e =
    let h = at_mapped (λ k. (t, k)) (range_with_len 0 m) n p e in
    let g = number_is 0 m n h.0 h.1 in
    let is : h.0 ≡ n = g.0 ∙ omega arith in
    (h.2 ∙ ap (λ z. (t, z)) is, g.1)

low : (t : ℕ) (xs : List TargetScript) (n : ℕ) (p : ℕ × ℕ) → get_elem? (places_from t xs) n ≡ raw.some p → t ≤ p.0
low t [] n p e = absurd (some-ne-none p (sym e))
low t (x ∷ xs) n p e = ⊎_elim
    (λ h. let g : p.0 ≡ t = ap (λ (z : ℕ × ℕ). z.0) (pair_is t (length x.threads) n p h).0 in omega (arith, g))
    (λ h. let g = low (t + 1) xs h.0 p h.2 in omega (arith, g))
    (at_joined (row t (length x.threads)) (places_from (t + 1) xs) n p e)

-- no thread is there twice
places_differ : (t : ℕ) (xs : List TargetScript) (m n : ℕ) (p q : ℕ × ℕ) → get_elem? (places_from t xs) m ≡ raw.some p → get_elem? (places_from t xs) n ≡ raw.some q → m ≢ n → p ≢ q
places_differ t [] m n p q e f d z = absurd (some-ne-none p (sym e))
places_differ t (x ∷ xs) m n p q e f d z =
    let count = length x.threads in
    let threads = row t count in
    let others = places_from (t + 1) xs in
    let apart : (k l : ℕ) (a b : ℕ × ℕ) → get_elem? threads k ≡ raw.some a → get_elem? others l ≡ raw.some b → a ≢ b =
    λ k l a b g h w. let lo = low (t + 1) xs l b h in let same : t ≡ b.0 = ap (λ (z : ℕ × ℕ). z.0) (sym (pair_is t count k a g).0 ∙ w) in omega (arith, lo, same) in
    ⊎_elim
    (λ g. ⊎_elim
    (λ h. d (ap (λ (z : ℕ × ℕ). z.1) (sym (pair_is t count m p g).0 ∙ z ∙ (pair_is t count n q h).0)))
    (λ h. apart m h.0 p q g h.2 z) (at_joined threads others n q f))
    (λ g. ⊎_elim
    (λ h. apart n g.0 q p h g.2 (sym z))
    (λ h. places_differ (t + 1) xs g.0 h.0 p q g.2 h.2 (λ w. let a = g.1 in let b = h.1 in d (omega (arith, a, b, w))) z) (at_joined threads others n q f))
    (at_joined threads others m p e)

abbrev worker_in : Actor → ℕ
worker_in (Worker t) = t
worker_in (Thread t k) = 0

abbrev kind_of : Actor → ℕ
kind_of (Worker t) = 0
kind_of (Thread t k) = 1

abbrev place_in : Actor → ℕ × ℕ
place_in (Worker t) = (0, 0)
place_in (Thread t k) = (t, k)

module _ (targets : List TargetScript) where
  abbrev workers : List Actor
  workers = map Worker (target_places targets)

  abbrev threads : List Actor
  threads = map thread_of (thread_places targets)

  worker_at : (n : ℕ) (a : Actor) → get_elem? workers n ≡ raw.some a → (a ≡ Worker n) × (n < length targets)
  worker_at n a e =
      let h = at_mapped Worker (target_places targets) n a e in
      let g = number_is 0 (length targets) n h.0 h.1 in
      let is : h.0 ≡ n = g.0 ∙ omega arith in
      (h.2 ∙ ap Worker is, g.1)

  pub actors_differ : (m n : ℕ) (a b : Actor) → get_elem? (all_actors targets) m ≡ raw.some a → get_elem? (all_actors targets) n ≡ raw.some b → m ≢ n → a ≢ b
  actors_differ m n a b e f d z = ⊎_elim
      (λ g. ⊎_elim
      (λ h. d (ap worker_in (sym (worker_at m a g).0 ∙ z ∙ (worker_at n b h).0)))
      (λ h. let k : 0 ≡ 1 = ap kind_of (sym (worker_at m a g).0 ∙ z ∙ (at_mapped thread_of (thread_places targets) h.0 b h.2).2) in omega (arith, k))
      (at_joined workers threads n b f))
      (λ g. ⊎_elim
      (λ h. let k : 0 ≡ 1 = ap kind_of (sym (worker_at n b h).0 ∙ sym z ∙ (at_mapped thread_of (thread_places targets) g.0 a g.2).2) in omega (arith, k))
      (λ h.
      let p = at_mapped thread_of (thread_places targets) g.0 a g.2 in
      let q = at_mapped thread_of (thread_places targets) h.0 b h.2 in
      places_differ 0 targets g.0 h.0 p.0 q.0 p.1 q.1 (λ w. let x = g.1 in let y = h.1 in d (omega (arith, x, y, w))) (ap place_in (sym p.2 ∙ z ∙ q.2)))
      (at_joined workers threads n b f))
      (at_joined workers threads m a e)

-- each of them is there
abbrev Lies : List TargetScript → ℕ → List TargetScript → Type 0
Lies targets t xs = (k : ℕ) → slice_get targets (t + k) ≡ slice_get xs k

thread_there : (targets : List TargetScript) (t : ℕ) (xs : List TargetScript) → Lies targets t xs → (n : ℕ) (p : ℕ × ℕ) → get_elem? (places_from t xs) n ≡ raw.some p → p.1 < thread_count (slice_get targets p.0)
thread_there targets t [] lies n p e = absurd (some-ne-none p (sym e))
thread_there targets t (x ∷ xs) lies n p e = ⊎_elim
    (λ h.
    let here : slice_get targets t ≡ Some x = ap (slice_get targets) (omega arith) ∙ lies 0 in
    let is = pair_is t (length x.threads) n p h in
    let count : thread_count (slice_get targets t) ≡ length x.threads = ap thread_count here in
    let below = is.1 in
    subst (λ (z : ℕ × ℕ). z.1 < thread_count (slice_get targets z.0)) (sym is.0) (omega (arith, count, below)))
    (λ h. thread_there targets (t + 1) xs (λ k. ap (slice_get targets) (omega arith) ∙ lies (suc k)) h.0 p h.2)
    (at_joined (row t (length x.threads)) (places_from (t + 1) xs) n p e)

pub places_there : (targets : List TargetScript) (n : ℕ) (p : ℕ × ℕ) → get_elem? (thread_places targets) n ≡ raw.some p → p.1 < thread_count (slice_get targets p.0)
places_there targets n p e = thread_there targets 0 targets (λ k. ap (slice_get targets) (omega arith)) n p e

pub actors_there : (targets : List TargetScript) (n : ℕ) (a : Actor) → get_elem? (all_actors targets) n ≡ raw.some a → is_there targets a ≡ true
actors_there targets n a e = ⊎_elim
    (λ h.
    let is = worker_at targets n a h in
    let below = is.1 in
    subst (λ z. is_there targets z ≡ true) (sym is.0) (grind (arith, nat_tests, below)))
    (λ h.
    let p = at_mapped thread_of (thread_places targets) h.0 a h.2 in
    let below = places_there targets h.0 p.0 p.1 in
    subst (λ z. is_there targets z ≡ true) (sym p.2) (grind (arith, nat_tests, below)))
    (at_joined (workers targets) (threads targets) n a e)

-- lists by the places of their elements
pub list_is : {A : Type 0} (at : ℕ → A) (d : A) (k : ℕ) (r : List A) → ((i : ℕ) → i < length r → get_or r i d ≡ at (k + i)) → r ≡ map at (range_with_len k (length r))
list_is at d k [] h = refl
list_is at d k (x ∷ r) h =
    let first : x ≡ at k = h 0 (omega arith) ∙ ap at (omega arith) in
    let rest = list_is at d (k + 1) r (λ i l. h (suc i) (omega (arith, l)) ∙ ap at (omega arith)) in
    λ i. first i ∷ rest i

-- and lists of lists
pub rows_are : {A : Type 0} (at : ℕ → ℕ → A) (d : A) (t : ℕ) (xs : List TargetScript) (rows : List (List A)) → length rows ≡ length xs
    → ((i : ℕ) → length (get_or rows i []) ≡ thread_count (slice_get xs i)) → ((i k : ℕ) → k < length (get_or rows i []) → get_or (get_or rows i []) k d ≡ at (t + i) k)
    → joined rows ≡ map (λ (p : ℕ × ℕ). at p.0 p.1) (places_from t xs)
rows_are at d t [] [] e f h = refl
rows_are at d t [] (r ∷ rows) e f h = absurd (omega (arith, e))
rows_are at d t (x ∷ xs) [] e f h = absurd (omega (arith, e))
rows_are at d t (x ∷ xs) (r ∷ rows) e f h =
    let first : r ≡ map (at t) (range_with_len 0 (length r)) = list_is (at t) d 0 r (λ i l. h 0 i l ∙ ap (λ z. at z i) (let z : t + 0 ≡ t = omega arith in z) ∙ ap (at t) (let z : i ≡ 0 + i = omega arith in z)) in
    let size : length r ≡ length x.threads = f 0 in
    let pairs : r ≡ map (λ (p : ℕ × ℕ). at p.0 p.1) (row t (length x.threads)) =
    first ∙ ap (λ z. map (at t) (range_with_len 0 z)) size ∙ sym (map-map (λ (p : ℕ × ℕ). at p.0 p.1) (λ k. (t, k)) (range_with_len 0 (length x.threads))) in
    let rest = rows_are at d (t + 1) xs rows (omega (arith, e)) (λ i. f (suc i)) (λ i k l. h (suc i) k l ∙ ap (λ z. at z k) (omega arith)) in
    (λ i. pairs i ++ rest i) ∙ sym (map-append (λ (p : ℕ × ℕ). at p.0 p.1) (row t (length x.threads)) (places_from (t + 1) xs))
