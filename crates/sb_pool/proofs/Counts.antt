-- How often numbers are in the queue and out, when one seat changes.
use Rattle.std.proofs.Common.{◌≡◌, ◌≢◌, ℕ, zero, suc, ◌+◌, ◌<◌, ◌≤◌, Bool, true, false, cond, eqb, Some, List, [], ◌∷◌, ◌++◌, length, set, map, refl, sym, ap, arith}
use Rattle.std.specs.Prelude.{slice_get, is_some, nat_lt}
use Rattle.std.proofs.lemmas.Bool.{false≢true}
use Rattle.std.proofs.lemmas.Bool.Decides.{nat_tests}
use mathlib.Core.Option as raw
use lib.ListN.{get_elem?}
use Rattle.sb_pool.specs.declared.protocol.PoolView.{PoolView}
use Rattle.sb_pool.specs.Views.{times, removed}
use Rattle.sb_pool.specs.Rule.{outs, times_in}

pub times_append : (k : ℕ) (xs ys : List ℕ) → times k (xs ++ ys) ≡ times k xs + times k ys
times_append k [] ys = omega arith
times_append k (x ∷ xs) ys = let s = times_append k xs ys in omega arith

pub times_snoc : (k : ℕ) (xs : List ℕ) (x : ℕ) → times k (xs ++ x ∷ []) ≡ times k xs + cond (eqb x k) 1 0
times_snoc k [] x = omega arith
times_snoc k (y ∷ ys) x = let s = times_snoc k ys x in omega arith

pub map_snoc : {W : Type 0} (f : W → ℕ) (xs : List W) (x : W) → map f (xs ++ x ∷ []) ≡ map f xs ++ f x ∷ []
map_snoc f [] x = refl
map_snoc f (y ∷ ys) x = ap (λ l. f y ∷ l) (map_snoc f ys x)

-- one place fewer
pub times_removed : (k n : ℕ) (xs : List ℕ) → 0 < times n xs → times k (removed n xs) + cond (eqb n k) 1 0 ≡ times k xs
times_removed k n [] h = absurd (omega arith)
times_removed k n (x ∷ xs) h = by (eqb x n) refl (λ t. times_removed k n xs t)
  where
    by : (b : Bool) → eqb x n ≡ b → (0 < times n xs → times k (removed n xs) + cond (eqb n k) 1 0 ≡ times k xs) → times k (cond b xs (x ∷ removed n xs)) + cond (eqb n k) 1 0 ≡ cond (eqb x k) 1 0 + times k xs
    by true e _ =
        let s : x ≡ n = grind (arith, nat_tests, e) in
        let t : cond {A = ℕ} (eqb x k) 1 0 ≡ cond (eqb n k) 1 0 = ap (λ z. cond (eqb z k) 1 0) s in
        omega arith
    by false e rest =
        let t : cond {A = ℕ} (eqb x n) 1 0 ≡ 0 = ap (λ z. cond z 1 0) e in
        let g : 0 < cond {A = ℕ} (eqb x n) 1 0 + times n xs = h in
        let s = rest (omega arith) in
        omega arith

pub length_removed : (n : ℕ) (xs : List ℕ) → 0 < times n xs → length (removed n xs) + 1 ≡ length xs
length_removed n [] h = absurd (omega arith)
length_removed n (x ∷ xs) h = by (eqb x n) refl (λ t. length_removed n xs t)
  where
    by : (b : Bool) → eqb x n ≡ b → (0 < times n xs → length (removed n xs) + 1 ≡ length xs) → length (cond b xs (x ∷ removed n xs)) + 1 ≡ suc (length xs)
    by true e _ = omega arith
    by false e rest =
        let t : cond {A = ℕ} (eqb x n) 1 0 ≡ 0 = ap (λ z. cond z 1 0) e in
        let g : 0 < cond {A = ℕ} (eqb x n) 1 0 + times n xs = h in
        let s = rest (omega arith) in
        omega arith

pub at_most_one : (b : Bool) → cond {A = ℕ} b 1 0 ≤ 1
at_most_one true = omega arith
at_most_one false = omega arith

-- the numbers below one more
pub one_more : (k l : ℕ) → cond {A = ℕ} (nat_lt k l) 1 0 + cond (eqb l k) 1 0 ≡ cond (nat_lt k (l + 1)) 1 0
one_more k l = by (nat_lt k l) refl (eqb l k) refl (nat_lt k (l + 1)) refl
  where
    by : (a : Bool) → nat_lt k l ≡ a → (b : Bool) → eqb l k ≡ b → (c : Bool) → nat_lt k (l + 1) ≡ c → cond {A = ℕ} a 1 0 + cond b 1 0 ≡ cond c 1 0
    by true e false f true g = refl
    by false e true f true g = refl
    by false e false f false g = refl
    by true e true f c g = absurd (grind (arith, nat_tests, e, f, g))
    by true e false f false g = absurd (grind (arith, nat_tests, e, f, g))
    by false e true f false g = absurd (grind (arith, nat_tests, e, f, g))
    by false e false f true g = absurd (grind (arith, nat_tests, e, f, g))

module _ {A : Type 0} where
  pub slice_longer : (xs : List A) (y : A) (n : ℕ) (x : A) → slice_get xs n ≡ Some x → slice_get (xs ++ y ∷ []) n ≡ Some x
  slice_longer [] y n x e = absurd (false≢true (ap is_some e))
  slice_longer (z ∷ xs) y zero x e = e
  slice_longer (z ∷ xs) y (suc n) x e = slice_longer xs y n x e

  pub slice_last : (xs : List A) (y : A) → slice_get (xs ++ y ∷ []) (length xs) ≡ Some y
  slice_last [] y = refl
  slice_last (x ∷ xs) y = slice_last xs y

module _ {H : Type 0} (f : PoolView H → List ℕ) (k : ℕ) where
  pub times_in_set : (views : List (PoolView H)) (p : ℕ) (v w : PoolView H) → get_elem? views p ≡ raw.some v
      → times_in f k (set views p w) + times k (f v) ≡ times_in f k views + times k (f w)
  times_in_set [] p v w e = absurd (raw.some-ne-none v (sym e))
  times_in_set (u ∷ us) zero v w e = let s = ap (λ (z : PoolView H). times k (f z)) (raw.some-injective u v e) in omega arith
  times_in_set (u ∷ us) (suc p) v w e = let s = times_in_set us p v w e in omega arith

  pub times_in_append : (views more : List (PoolView H)) → times_in f k (views ++ more) ≡ times_in f k views + times_in f k more
  times_in_append [] more = omega arith
  times_in_append (u ∷ us) more = let s = times_in_append us more in omega arith

  -- what is with one seat is among what is with all
  pub times_in_at : (views : List (PoolView H)) (p : ℕ) (v : PoolView H) → get_elem? views p ≡ raw.some v → times k (f v) ≤ times_in f k views
  times_in_at [] p v e = absurd (raw.some-ne-none v (sym e))
  times_in_at (u ∷ us) zero v e = let s = ap (λ (z : PoolView H). times k (f z)) (raw.some-injective u v e) in omega arith
  times_in_at (u ∷ us) (suc p) v e = let s = times_in_at us p v e in omega arith

  -- and so is what is with two
  pub times_in_two : (views : List (PoolView H)) (p q : ℕ) (v w : PoolView H) → p ≢ q → get_elem? views p ≡ raw.some v → get_elem? views q ≡ raw.some w
      → times k (f v) + times k (f w) ≤ times_in f k views
  times_in_two [] p q v w n e h = absurd (raw.some-ne-none v (sym e))
  times_in_two (u ∷ us) zero zero v w n e h = absurd (n refl)
  times_in_two (u ∷ us) zero (suc q) v w n e h =
      let s = ap (λ (z : PoolView H). times k (f z)) (raw.some-injective u v e) in
      let t = times_in_at us q w h in
      omega arith
  times_in_two (u ∷ us) (suc p) zero v w n e h =
      let s = ap (λ (z : PoolView H). times k (f z)) (raw.some-injective u w h) in
      let t = times_in_at us p v e in
      omega arith
  times_in_two (u ∷ us) (suc p) (suc q) v w n e h = let s = times_in_two us p q v w (λ t. n (ap suc t)) e h in omega arith

  -- if no other seat has any, this seat has all
  none_in : (views : List (PoolView H)) → ((i : ℕ) (u : PoolView H) → get_elem? views i ≡ raw.some u → f u ≡ []) → times_in f k views ≡ 0
  none_in [] none = refl
  none_in (u ∷ us) none =
      let h : times k (f u) ≡ 0 = ap (times k) (none 0 u refl) in
      let s = none_in us (λ i w e. none (suc i) w e) in
      omega arith

  pub only_in : (views : List (PoolView H)) (p : ℕ) (v : PoolView H) → get_elem? views p ≡ raw.some v
      → ((i : ℕ) (u : PoolView H) → i ≢ p → get_elem? views i ≡ raw.some u → f u ≡ []) → times_in f k views ≡ times k (f v)
  only_in [] p v e none = absurd (raw.some-ne-none v (sym e))
  only_in (u ∷ us) zero v e none =
      let h : times k (f u) ≡ times k (f v) = ap (λ (z : PoolView H). times k (f z)) (raw.some-injective u v e) in
      let s = none_in us (λ i w q. none (suc i) w (λ n. omega arith) q) in
      omega arith
  only_in (u ∷ us) (suc p) v e none =
      let h : times k (f u) ≡ 0 = ap (times k) (none 0 u (λ n. omega arith) refl) in
      let s = only_in us p v e (λ i w n q. none (suc i) w (λ m. n (omega arith)) q) in
      omega arith

module _ {H : Type 0} where
  pub outs_set : (views : List (PoolView H)) (p : ℕ) (v w : PoolView H) → get_elem? views p ≡ raw.some v
      → outs (set views p w) + length v.out ≡ outs views + length w.out
  outs_set [] p v w e = absurd (raw.some-ne-none v (sym e))
  outs_set (u ∷ us) zero v w e = let s = ap (λ (z : PoolView H). length z.out) (raw.some-injective u v e) in omega arith
  outs_set (u ∷ us) (suc p) v w e = let s = outs_set us p v w e in omega arith

  pub outs_append : (views more : List (PoolView H)) → outs (views ++ more) ≡ outs views + outs more
  outs_append [] more = omega arith
  outs_append (u ∷ us) more = let s = outs_append us more in omega arith

  -- what one seat has out is among what is out
  pub outs_at : (views : List (PoolView H)) (p : ℕ) (v : PoolView H) → get_elem? views p ≡ raw.some v → length v.out ≤ outs views
  outs_at [] p v e = absurd (raw.some-ne-none v (sym e))
  outs_at (u ∷ us) zero v e = let s = ap (λ (z : PoolView H). length z.out) (raw.some-injective u v e) in omega arith
  outs_at (u ∷ us) (suc p) v e = let s = outs_at us p v e in omega arith

  -- if no other seat has anything out, this seat has all that is out
  none_out : (views : List (PoolView H)) → ((i : ℕ) (u : PoolView H) → get_elem? views i ≡ raw.some u → u.out ≡ []) → outs views ≡ 0
  none_out [] f = refl
  none_out (u ∷ us) f =
      let h : length u.out ≡ 0 = ap length (f 0 u refl) in
      let s = none_out us (λ i w e. f (suc i) w e) in
      omega arith

  pub only_out : (views : List (PoolView H)) (p : ℕ) (v : PoolView H) → get_elem? views p ≡ raw.some v
      → ((i : ℕ) (u : PoolView H) → i ≢ p → get_elem? views i ≡ raw.some u → u.out ≡ []) → outs views ≡ length v.out
  only_out [] p v e f = absurd (raw.some-ne-none v (sym e))
  only_out (u ∷ us) zero v e f =
      let h : length u.out ≡ length v.out = ap (λ (z : PoolView H). length z.out) (raw.some-injective u v e) in
      let s = none_out us (λ i w q. f (suc i) w (λ n. omega arith) q) in
      omega arith
  only_out (u ∷ us) (suc p) v e f =
      let h : length u.out ≡ 0 = ap length (f 0 u (λ n. omega arith) refl) in
      let s = only_out us p v e (λ i w n q. f (suc i) w (λ m. n (omega arith)) q) in
      omega arith
