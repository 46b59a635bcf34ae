-- The last seat of a pool once it has taken in all others.
use Rattle.std.proofs.Common.{◌≡◌, refl, sym, subst, ap, ◌∙◌, ℕ, zero, suc, ◌+◌, ◌<◌, ◌==◌, cond, Bool, true, false, List, [], ◌∷◌, ◌++◌, append-nil, append_assoc, length, length-append, map, None, Some, inl, inr, arith, All, ◌⊎◌, slice_get}
use Rattle.std.proofs.lemmas.Bool.Decides.{nat_tests}
use Rattle.std.proofs.lemmas.List.Elements.{All-cons, All-nil}
use Rattle.std.specs.Option.{option_or}
use native.Mathlib.Decide.{ℕ_discrete}
use Rattle.sb_pool.specs.Pools.{AreSeats, IsSeatOf, PoolValue, seen}
use Rattle.sb_pool.specs.Views.{IsLast, fresh_view, times, with_taken}
use Rattle.sb_pool.specs.declared.protocol.PoolView.{PoolView}
use Rattle.sb_pool.specs.declared.seats.PoolSeat.{PoolSeat}
use Rattle.sb_run.specs.Pooling.{with_seats}

-- the elements of a list by place
pub get_front : {X : Type 0} (xs ys : List X) (n : ℕ) (x : X) → slice_get xs n ≡ Some x → slice_get (xs ++ ys) n ≡ Some x
get_front [] ys n x e = absurd (cc)
get_front (z ∷ xs) ys zero x e = e
get_front (z ∷ xs) ys (suc n) x e = get_front xs ys n x e

pub get_last : {X : Type 0} (xs : List X) (x : X) → slice_get (xs ++ x ∷ []) (length xs) ≡ Some x
get_last [] x = refl
get_last (z ∷ xs) x = get_last xs x

there : {X : Type 0} (xs : List X) (i : ℕ) → i < length xs → (x : X) × (slice_get xs i ≡ Some x)
there [] i l = absurd (omega arith)
there (y ∷ ys) zero l = (y, refl)
there (y ∷ ys) (suc i) l = there ys i (omega arith)

pub all_from : {X : Type 0} (P : X → Type 0) (xs : List X) → ((n : ℕ) (x : X) → slice_get xs n ≡ Some x → P x) → All P xs
all_from P [] each = All-nil P
all_from P (x ∷ xs) each = All-cons P x xs (each 0 x refl) (all_from P xs (λ n y e. each (suc n) y e))

one_of : (k x : ℕ) (xs : List ℕ) → x ≡ k → 0 < times k (x ∷ xs)
one_of k x xs e = by_test (x == k) refl
  where
    by_test : (b : Bool) → (x == k) ≡ b → 0 < cond b 1 0 + times k xs
    by_test true f = omega arith
    by_test false f = absurd (grind (arith, nat_tests, e, f))

not_first : (n x : ℕ) → 0 < n → cond (n == 0) (Some x) None ≡ None
not_first n x l = by_test (n == 0) refl
  where
    by_test : (b : Bool) → (n == 0) ≡ b → cond b (Some x) None ≡ None
    by_test true f = absurd (grind (arith, nat_tests, l, f))
    by_test false f = refl

module _ {W H : Type 0} where
  pub seats_more : (v : PoolView H) (seats : List (PoolSeat W H)) (s : PoolSeat W H) → with_taken (with_seats v seats) (seen s) ≡ with_seats v (seats ++ s ∷ [])
  seats_more v [] s = refl
  seats_more v (z ∷ seats) s = seats_more (with_taken v (seen z)) seats s

  pub out_with : (v : PoolView H) (seats : List (PoolSeat W H)) → (with_seats v seats).out ≡ v.out
  out_with v [] = refl
  out_with v (s ∷ seats) = out_with (with_taken v (seen s)) seats

  pub homes_with : (v : PoolView H) (seats : List (PoolSeat W H)) → (with_seats v seats).homes ≡ v.homes
  homes_with v [] = refl
  homes_with v (s ∷ seats) = homes_with (with_taken v (seen s)) seats

  number_with : (v : PoolView H) (seats : List (PoolSeat W H)) → (with_seats v seats).number ≡ v.number
  number_with v [] = refl
  number_with v (s ∷ seats) = number_with (with_taken v (seen s)) seats

  abbrev numbers_of : List (PoolSeat W H) → List ℕ
  numbers_of seats = map (λ s. (seen s).number) seats

  taken_with : (v : PoolView H) (seats : List (PoolSeat W H)) → ((n : ℕ) (s : PoolSeat W H) → slice_get seats n ≡ Some s → (seen s).taken ≡ [])
      → (with_seats v seats).taken ≡ v.taken ++ numbers_of seats
  taken_with v [] none = sym (append-nil v.taken)
  taken_with v (s ∷ seats) none =
      taken_with (with_taken v (seen s)) seats (λ n z e. none (suc n) z e)
      ∙ append_assoc v.taken ((seen s).number ∷ (seen s).taken) (numbers_of seats)
      ∙ ap (λ z. v.taken ++ ((seen s).number ∷ z ++ numbers_of seats)) (none 0 s refl)

  count_kept : (v : PoolView H) (seats : List (PoolSeat W H)) (c : ℕ) → v.count ≡ Some c → (with_seats v seats).count ≡ Some c
  count_kept v [] c e = e
  count_kept v (s ∷ seats) c e = count_kept (with_taken v (seen s)) seats c (ap (λ o. option_or o (seen s).count) e)

  count_with : (v : PoolView H) (seats : List (PoolSeat W H)) (c : ℕ) → v.count ≡ None → 0 < length seats
      → ((n : ℕ) (s : PoolSeat W H) → slice_get seats n ≡ Some s → (seen s).count ≡ cond (n == 0) (Some c) None) → (with_seats v seats).count ≡ Some c
  count_with v [] c none l each = absurd (omega (arith, l))
  count_with v (s ∷ seats) c none l each = count_kept (with_taken v (seen s)) seats c (ap (λ o. option_or o (seen s).count) none ∙ each 0 s refl)

  stands : (k : ℕ) (seats : List (PoolSeat W H)) (n : ℕ) (s : PoolSeat W H) → slice_get seats n ≡ Some s → (seen s).number ≡ k → 0 < times k (numbers_of seats)
  stands k [] n s e f = absurd (cc)
  stands k (z ∷ seats) zero s e f = let same : z ≡ s = cc in one_of k (seen z).number (numbers_of seats) (ap (λ (q : PoolSeat W H). (seen q).number) same ∙ f)
  stands k (z ∷ seats) (suc n) s e f = more (cond ((seen z).number == k) 1 0) (stands k seats n s e f)
    where
      more : (m : ℕ) → 0 < times k (numbers_of seats) → 0 < m + times k (numbers_of seats)
      more m l = omega (arith, l)

  -- all seats of a pool, as they were made; the last one is to take in the others
  module _ (pool : PoolValue) (homes : List H) (others : List (PoolSeat W H)) (last : PoolSeat W H) (seats : AreSeats pool homes (others ++ last ∷ [])) (some : 0 < length others) where
    count_is : length (others ++ last ∷ []) ≡ length others + 1
    count_is = length-append others (last ∷ [])

    last_is : seen last ≡ fresh_view (length others) homes None
    last_is = (seats (length others) last (get_last others last)).1 ∙ ap (λ c. fresh_view (length others) homes c) (not_first (length others) (length (others ++ last ∷ [])) some)

    other_is : (n : ℕ) (s : PoolSeat W H) → slice_get others n ≡ Some s → seen s ≡ fresh_view n homes (cond (n == 0) (Some (length (others ++ last ∷ []))) None)
    other_is n s e = (seats n s (get_front others (last ∷ []) n s e)).1

    pub last_homes : (seen last).homes ≡ homes
    last_homes = ap (λ (v : PoolView H). v.homes) last_is

    pub last_own : IsSeatOf pool last
    last_own = (seats (length others) last (get_last others last)).0

    pub others_own : All (IsSeatOf pool) others
    others_own = all_from (IsSeatOf pool) others (λ n s e. (seats n s (get_front others (last ∷ []) n s e)).0)

    pub others_idle : All (λ (s : PoolSeat W H). (seen s).out ≡ []) others
    others_idle = all_from (λ (s : PoolSeat W H). (seen s).out ≡ []) others (λ n s e. ap (λ (v : PoolView H). v.out) (other_is n s e))

    pub none_out : (with_seats (seen last) others).out ≡ []
    none_out = out_with (seen last) others ∙ ap (λ (v : PoolView H). v.out) last_is

    taken_is : (with_seats (seen last) others).taken ≡ numbers_of others
    taken_is = taken_with (seen last) others (λ n s e. ap (λ (v : PoolView H). v.taken) (other_is n s e)) ∙ ap (λ (v : PoolView H). v.taken ++ numbers_of others) last_is

    numbered : (k : ℕ) → k < length (others ++ last ∷ []) → (k ≡ (with_seats (seen last) others).number) ⊎ (0 < times k (with_seats (seen last) others).taken)
    numbered k l = by_place (ℕ_discrete k (length others))
      where
        by_place : Dec (k ≡ length others) → (k ≡ (with_seats (seen last) others).number) ⊎ (0 < times k (with_seats (seen last) others).taken)
        by_place (yes e) = inl (e ∙ sym (ap (λ (v : PoolView H). v.number) last_is) ∙ sym (number_with (seen last) others))
        by_place (no ne) =
            let low : k < length others = lower ne in
            let one = there others k low in
            inr (subst (λ z. 0 < times k z) (sym taken_is) (stands k others k one.0 one.1 (ap (λ (v : PoolView H). v.number) (other_is k one.0 one.1))))
          where
            lower : (k ≡ length others → ⊥) → k < length others
            lower ne = grind (arith, ne, l, count_is)

    pub is_last : IsLast (with_seats (seen last) others)
    is_last = (
      length (others ++ last ∷ []),
      count_with (seen last) others (length (others ++ last ∷ [])) (ap (λ (v : PoolView H). v.count) last_is) some (λ n s e. ap (λ (v : PoolView H). v.count) (other_is n s e)),
      numbered,
    )
