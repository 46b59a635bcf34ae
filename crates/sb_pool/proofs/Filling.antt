-- Works at places, taken in order.
use Rattle.std.proofs.Common.{◌≡◌, ℕ, zero, suc, ◌+◌, ◌<◌, ◌≤◌, Option, Some, None, List, [], ◌∷◌, ◌++◌, append_assoc, length, length-append, map, refl, sym, ap, ◌∙◌, arith}
use Rattle.std.specs.Prelude.{slice_get, unwrap_or, is_some}
use Rattle.std.proofs.lemmas.Bool.{false≢true}
use Rattle.std.proofs.lemmas.List.{append-nil}
use Rattle.sb_pool.specs.Rooms.{filled}
use Rattle.sb_pool.specs.Pools.{AreNumbered, AreAllHome}

module _ {A : Type 0} where
  -- a list that is passed one by one
  pub passed_one : (all passed left later : List A) (x : A) → all ≡ passed ++ left → left ≡ x ∷ later → all ≡ (passed ++ x ∷ []) ++ later
  passed_one all passed left later x e f = e ∙ ap (λ l. passed ++ l) f ∙ sym (append_assoc passed (x ∷ []) later)

  pub passed_all : (all passed left : List A) → all ≡ passed ++ left → length left ≡ 0 → all ≡ passed
  passed_all all passed [] e h = rw append-nil at e
  passed_all all passed (x ∷ left) e h = absurd (omega (arith, h))

  pub passed_at : (all passed left later : List A) (x : A) → all ≡ passed ++ left → left ≡ x ∷ later → slice_get all (length passed) ≡ Some x
  passed_at all passed left later x e f = rw (e, f) (here passed)
    where
      here : (passed : List A) → slice_get (passed ++ x ∷ later) (length passed) ≡ Some x
      here [] = refl
      here (y ∷ passed) = here passed

  pub passed_below : (all passed left later : List A) (x : A) (room : ℕ) → all ≡ passed ++ left → left ≡ x ∷ later → length all ≤ room → length passed < room
  passed_below all passed left later x room e f h =
      let long : length all ≡ length passed + (1 + length later) = rw (e, f) (simp length-append (omega arith)) in
      omega arith

module _ {W : Type 0} where
  pub filled_some : (slots : List (Option W)) (work : W) → filled (slots ++ Some work ∷ []) ≡ filled slots ++ work ∷ []
  filled_some [] work = refl
  filled_some (None ∷ slots) work = filled_some slots work
  filled_some (Some w ∷ slots) work = ap (λ l. w ∷ l) (filled_some slots work)

  pub filled_none : (slots : List (Option W)) → filled (slots ++ None ∷ []) ≡ filled slots
  filled_none [] = refl
  filled_none (None ∷ slots) = filled_none slots
  filled_none (Some w ∷ slots) = ap (λ l. w ∷ l) (filled_none slots)

  filled_few : (slots : List (Option W)) → length (filled slots) ≤ length slots
  filled_few [] = omega arith
  filled_few (None ∷ slots) = let s = filled_few slots in omega arith
  filled_few (Some work ∷ slots) = let s = filled_few slots in omega arith

  -- while a place is to come, there is room
  pub filled_below : (slots passed left later : List (Option W)) (slot : Option W) (room : ℕ)
      → slots ≡ passed ++ left → left ≡ slot ∷ later → length slots ≤ room → length (filled passed) < room
  filled_below slots passed left later slot room e f h =
      let few = filled_few passed in
      let below = passed_below slots passed left later slot room e f h in
      omega arith

module _ {W H : Type 0} (number : W → ℕ) (home : W → H) where
  -- the first place holds a work
  some_first : (slot work : Option W) (w : W) → Some slot ≡ Some (Some w) → slot ≡ Some w
  some_first slot work w e = ap (λ o. unwrap_or o work) e

  -- if the places from k on hold the works of their numbers, so does the list of them
  homes_from : (k : ℕ) (slots : List (Option W)) (homes : List H) → length slots ≡ length homes
      → ((n : ℕ) → n < length homes → (work : W) × (slice_get slots n ≡ Some (Some work)) × (number work ≡ k + n) × (slice_get homes n ≡ Some (home work)))
      → map home (filled slots) ≡ homes
  homes_from k [] [] long all = refl
  homes_from k [] (h ∷ homes) long all = absurd (omega (arith, long))
  homes_from k (slot ∷ slots) [] long all = absurd (omega (arith, long))
  homes_from k (None ∷ slots) (h ∷ homes) long all =
      let a = all 0 (omega arith) in
      absurd (false≢true (ap is_some (some_first None None a.0 a.1)))
  homes_from k (Some w ∷ slots) (h ∷ homes) long all =
      let a = all 0 (omega arith) in
      let same : w ≡ a.0 = ap (λ o. unwrap_or o w) (some_first (Some w) None a.0 a.1) in
      let first : home w ≡ h = ap home same ∙ sym (ap (λ o. unwrap_or o (home a.0)) a.3) in
      let rest = homes_from (k + 1) slots homes (omega (arith, long))
      (λ n below. let b = all (suc n) (omega arith) in (b.0, b.1, omega (arith, b.2), b.3)) in
      ap (λ x. x ∷ map home (filled slots)) first ∙ ap (λ l. h ∷ l) rest

  numbers_from : (k : ℕ) (slots : List (Option W)) (homes : List H) → length slots ≡ length homes
      → ((n : ℕ) → n < length homes → (work : W) × (slice_get slots n ≡ Some (Some work)) × (number work ≡ k + n) × (slice_get homes n ≡ Some (home work)))
      → (n : ℕ) (work : W) → slice_get (filled slots) n ≡ Some work → number work ≡ k + n
  numbers_from k [] [] long all n work e = absurd (false≢true (ap is_some e))
  numbers_from k [] (h ∷ homes) long all n work e = absurd (omega (arith, long))
  numbers_from k (slot ∷ slots) [] long all n work e = absurd (omega (arith, long))
  numbers_from k (None ∷ slots) (h ∷ homes) long all n work e =
      let a = all 0 (omega arith) in
      absurd (false≢true (ap is_some (some_first None None a.0 a.1)))
  numbers_from k (Some w ∷ slots) (h ∷ homes) long all zero work e =
      let a = all 0 (omega arith) in
      let same : w ≡ a.0 = ap (λ o. unwrap_or o w) (some_first (Some w) None a.0 a.1) in
      let this : w ≡ work = ap (λ o. unwrap_or o w) e in
      ap number (sym this ∙ same) ∙ a.2
  numbers_from k (Some w ∷ slots) (h ∷ homes) long all (suc n) work e =
      let s = numbers_from (k + 1) slots homes (omega (arith, long))
      (λ n below. let b = all (suc n) (omega arith) in (b.0, b.1, omega (arith, b.2), b.3)) n work e in
      omega arith

  pub in_order_homes : (slots : List (Option W)) (homes : List H) → AreAllHome number home homes slots → map home (filled slots) ≡ homes
  in_order_homes slots homes all = homes_from 0 slots homes all.0 (λ n below. let a = all.1 n below in (a.0, a.1, omega (arith, a.2), a.3))

  pub in_order_numbers : (slots : List (Option W)) (homes : List H) → AreAllHome number home homes slots → AreNumbered number (filled slots)
  in_order_numbers slots homes all = λ n work e.
      let s = numbers_from 0 slots homes all.0 (λ n below. let a = all.1 n below in (a.0, a.1, omega (arith, a.2), a.3)) n work e in
      omega arith
