-- The end of the count: a seat that took in all others knows all that happened.
use Rattle.std.proofs.Common.{◌≡◌, ◌≢◌, ◌∙◌, ◌⊎◌, inl, inr, ℕ, zero, suc, ◌+◌, ◌<◌, ◌≤◌, Bool, true, false, cond, eqb, List, [], ◌∷◌, length, get_or, refl, sym, ap, subst, arith}
use Rattle.std.proofs.lemmas.Bool.Decides.{nat_tests}
use mathlib.Core.Option as raw
use lib.ListN.{get_elem?}
use Rattle.atomic_table.specs.Table.{State, Final, Seen}
use Rattle.sb_pool.specs.declared.events.PoolEvent.{PoolEvent}
use Rattle.sb_pool.specs.declared.events.SeatHistory.{SeatHistory}
use Rattle.sb_pool.specs.declared.protocol.PoolView.{PoolView}
use Rattle.sb_pool.specs.Counting.{total, Counts, count_word}
use Rattle.sb_pool.specs.Events.{weigh, AreIn, IsClosed}
use Rattle.sb_pool.specs.Views.{times, removed, IsLast}
use Rattle.sb_pool.proofs.Counts.{times_removed, length_removed}
use Rattle.sb_pool.proofs.Happened.{total_at}

module _ (f : SeatHistory → ℕ) where
  total_two : (views : List SeatHistory) (i j : ℕ) (v u : SeatHistory) → j ≢ i → get_elem? views i ≡ raw.some v → get_elem? views j ≡ raw.some u → f v + f u ≤ total f views
  total_two [] i j v u n e h = absurd (raw.some-ne-none v (sym e))
  total_two (x ∷ xs) zero zero v u n e h = absurd (n refl)
  total_two (x ∷ xs) zero (suc j) v u n e h =
      let s = ap f (raw.some-injective x v e) in
      let t = total_at f xs j u h in
      omega (arith, s, t)
  total_two (x ∷ xs) (suc i) zero v u n e h =
      let s = ap f (raw.some-injective x u h) in
      let t = total_at f xs i v e in
      omega (arith, s, t)
  total_two (x ∷ xs) (suc i) (suc j) v u n e h = let s = total_two xs i j v u (λ t. n (ap suc t)) e h in omega (arith, s)

  total_none : (views : List SeatHistory) → ((j : ℕ) (u : SeatHistory) → get_elem? views j ≡ raw.some u → f u ≡ 0) → total f views ≡ 0
  total_none [] none = refl
  total_none (x ∷ xs) none =
      let h = none 0 x refl in
      let s = total_none xs (λ j u e. none (suc j) u e) in
      omega (arith, h, s)

  -- if no other seat has any, this one has all
  total_only : (views : List SeatHistory) (i : ℕ) (v : SeatHistory) → get_elem? views i ≡ raw.some v → ((j : ℕ) (u : SeatHistory) → j ≢ i → get_elem? views j ≡ raw.some u → f u ≡ 0)
      → total f views ≡ f v
  total_only [] i v e none = absurd (raw.some-ne-none v (sym e))
  total_only (x ∷ xs) zero v e none =
      let h = ap f (raw.some-injective x v e) in
      let s = total_none xs (λ j u q. none (suc j) u (λ n. omega arith) q) in
      omega (arith, h, s)
  total_only (x ∷ xs) (suc i) v e none =
      let h = none 0 x (λ n. omega arith) refl in
      let s = total_only xs i v e (λ j u n q. none (suc j) u (λ m. n (omega arith)) q) in
      omega (arith, h, s)

module _ (works seats : ℕ) (words : List ℕ) (views : List SeatHistory) (r : Counts works seats words views) (id : ℕ) (v : SeatHistory) (at_id : get_elem? views id ≡ raw.some v)
    (all : seats ≤ v.seats) (none : v.out ≡ 0) where
  others : (j : ℕ) (u : SeatHistory) → j ≢ id → get_elem? views j ≡ raw.some u → (u.own ≡ []) × (u.out ≡ 0)
  others j u apart at_j =
      let two = total_two (λ (z : SeatHistory). z.seats) views id j v u apart at_id at_j in
      let s = r.all_seats in
      (r.each j u at_j).spent (omega (arith, two, s, all))

  pub closes : IsClosed works v
  closes =
      record {
        events = r.events;
        began = (r.each id v at_id).began;
        taken = (r.each id v at_id).taken;
        own = λ h. r.own h ∙ total_only (λ (z : SeatHistory). weigh h z.own) views id v at_id (λ j u n e. ap (weigh h) (others j u n e).0);
        all_in =
            let o = total_only (λ (z : SeatHistory). z.out) views id v at_id (λ j u n e. (others j u n e).1) in
            let s = r.sizes in
            let same : get_or words count_word 0 ≡ works = omega (arith, o, s, none) in
            subst (AreIn r.events) same r.counted;
      }

pub final_closes : (works seats id : ℕ) (v : SeatHistory) (words : List ℕ) (slots : List (Unit {0})) → Final (Seen (λ (s : State (Unit {0}) SeatHistory). Counts works seats s.words s.views) id v) words slots
    → seats ≤ v.seats → v.out ≡ 0 → IsClosed works v
final_closes works seats id v words slots end all none = closes works seats end.0.words end.0.views end.1.0 id v end.1.1 all none

-- a list with each number below c has c elements at least
covers : (c : ℕ) (xs : List ℕ) → ((k : ℕ) → k < c → 0 < times k xs) → c ≤ length xs
covers zero xs each = omega arith
covers (suc m) xs each =
    let some : 0 < times m xs = each m (omega arith) in
    let rest = covers m (removed m xs) (λ k below. still k below (eqb m k) refl (times_removed k m xs some) (each k (omega (arith, below)))) in
    let one = length_removed m xs some in
    omega (arith, rest, one)
  where
    still : (k : ℕ) → k < m → (b : Bool) → eqb m k ≡ b → times k (removed m xs) + cond (eqb m k) 1 0 ≡ times k xs → 0 < times k xs → 0 < times k (removed m xs)
    still k below true e t h = absurd (grind (arith, nat_tests, below, e))
    still k below false e t h = let z : cond {A = ℕ} (eqb m k) 1 0 ≡ 0 = ap (λ b. cond {A = ℕ} b 1 0) e in omega (arith, t, h, z)

-- the last seat took in all others
pub last_covers : {H : Type 0} (v : PoolView H) (last : IsLast v) → last.0 ≤ length v.taken + 1
last_covers v last =
    let s = covers last.0 (v.number ∷ v.taken) (λ k below. by k (last.2 k below)) in
    omega (arith, s)
  where
    here : (k n : ℕ) → k ≡ n → cond {A = ℕ} (eqb n k) 1 0 ≡ 1
    here k n e = grind (arith, nat_tests, e)

    by : (k : ℕ) → (k ≡ v.number) ⊎ (0 < times k v.taken) → 0 < times k (v.number ∷ v.taken)
    by k (inl e) = let one = here k v.number e in omega (arith, one)
    by k (inr h) = omega (arith, h)
