-- Works that are drawn and put at the places of their numbers, and seats that are made one by one.
use Rattle.std.proofs.Common.{◌≡◌, ◌≢◌, ◌⊎◌, ℕ, zero, suc, ◌+◌, ◌<◌, ◌≤◌, Bool, true, false, cond, eqb, Option, Some, None, List, [], ◌∷◌, ◌++◌, length, length-set, set, map, refl, sym, ap, ◌∙◌, subst, inl, inr, ⊎_elim, arith}
use Rattle.std.specs.Prelude.{slice_get, unwrap_or, is_some, nat_lt, IfNone}
use Rattle.std.proofs.lemmas.Bool.Decides.{nat_tests}
use Rattle.std.proofs.lemmas.Bool.{false≢true}
use Rattle.std.proofs.lemmas.Option.{slice_get_within}
use Rattle.atomic_table.specs.Seated.{TableId}
use Rattle.sb_pool.specs.declared.protocol.PoolView.{PoolView}
use Rattle.sb_pool.specs.declared.seats.PoolSeat.{PoolSeat}
use Rattle.sb_pool.specs.Views.{times, fresh_view, counted, newcomer, IsLast}
use Rattle.sb_pool.specs.Rule.{Drawn, IsMoment}
use Rattle.sb_pool.specs.Pools.{PoolValue, seen, AreDivided, AreSeats, IsHome, IsGathering, AreAllHome, IsCounted}
use Rattle.sb_pool.proofs.Places.{length_snoc}
use Rattle.sb_pool.proofs.Steps.{left_all, left_each}

pub not_zero : (m : ℕ) → eqb (suc m) 0 ≡ false
not_zero m = by (eqb (suc m) 0) refl
  where
    by : (b : Bool) → eqb (suc m) 0 ≡ b → eqb (suc m) 0 ≡ false
    by true e = absurd (grind (arith, nat_tests, e))
    by false e = e

-- what holds if there was none
pub where_none : {A : Type 0} {P : Type 0} (o : Option A) → o ≡ None → IfNone o P → P
where_none None e p = p
where_none (Some x) e p = absurd (false≢true (ap is_some (sym e)))

module _ {A : Type 0} where
  get_set_here : (xs : List A) (i : ℕ) (a : A) → i < length xs → slice_get (set xs i a) i ≡ Some a
  get_set_here [] i a h = absurd (omega (arith, h))
  get_set_here (x ∷ xs) zero a h = refl
  get_set_here (x ∷ xs) (suc i) a h = get_set_here xs i a (omega (arith, h))

  get_set_else : (xs : List A) (i j : ℕ) (a : A) → j ≢ i → slice_get (set xs i a) j ≡ slice_get xs j
  get_set_else [] i j a n = refl
  get_set_else (x ∷ xs) zero zero a n = absurd (n refl)
  get_set_else (x ∷ xs) zero (suc j) a n = refl
  get_set_else (x ∷ xs) (suc i) zero a n = refl
  get_set_else (x ∷ xs) (suc i) (suc j) a n = get_set_else xs i j a (λ e. n (ap suc e))

  pub get_snoc : (xs : List A) (y : A) (n : ℕ) (x : A) → slice_get (xs ++ y ∷ []) n ≡ Some x → (slice_get xs n ≡ Some x) ⊎ ((n ≡ length xs) × (y ≡ x))
  get_snoc [] y zero x e = inr (refl, ap (λ o. unwrap_or o y) e)
  get_snoc [] y (suc n) x e = absurd (false≢true (ap is_some e))
  get_snoc (z ∷ xs) y zero x e = inl e
  get_snoc (z ∷ xs) y (suc n) x e = ⊎_elim (λ t. inl t) (λ t. inr (ap suc t.0, t.1)) (get_snoc xs y n x e)

module _ {W H : Type 0} (number : W → ℕ) (home : W → H) (homes : List H) where
  -- one work more is at its place
  placed_more : (out : List ℕ) (slots : List (Option W)) (work : W) → number work < length slots → slice_get homes (number work) ≡ Some (home work)
      → ((n : ℕ) → 0 < times n out → IsHome number home homes slots n)
      → (n : ℕ) → 0 < times n (number work ∷ out) → IsHome number home homes (set slots (number work) (Some work)) n
  placed_more out slots work below at_home placed n some = by (eqb (number work) n) refl
    where
      by : (b : Bool) → eqb (number work) n ≡ b → IsHome number home homes (set slots (number work) (Some work)) n
      by true e =
          let same : number work ≡ n = grind (arith, nat_tests, e) in (
            work,
            ap (slice_get (set slots (number work) (Some work))) (sym same) ∙ get_set_here slots (number work) (Some work) below,
            same,
            ap (slice_get homes) (sym same) ∙ at_home,
          )
      by false e =
          let apart : n ≢ number work = λ h. false≢true (sym e ∙ ap (eqb (number work)) h ∙ grind (arith, nat_tests)) in
          let z : cond {A = ℕ} (eqb (number work) n) 1 0 ≡ 0 = ap (λ b. cond {A = ℕ} b 1 0) e in
          let s = some in
          let p = placed n (omega arith) in
          (p.0, get_set_else slots (number work) n (Some work) apart ∙ p.1, p.2, p.3)

  -- no work is at its place yet
  pub gather_none : (v : PoolView H) (slots : List (Option W)) → v.live ≡ true → IsLast v → v.homes ≡ homes → v.out ≡ [] → length slots ≡ length homes
      → IsGathering number home homes 0 v slots
  gather_none v slots live last same none long = record {
    live = live;
    last = last;
    same = same;
    out = ap length none;
    places = long;
    placed = λ n some. let z : times n v.out ≡ 0 = ap (times n) none in let s = some in absurd (omega arith);
  }

  -- a work that was drawn has a place
  pub gather_inside : (count : ℕ) (v w : PoolView H) (slots : List (Option W)) (work : W) → IsGathering number home homes count v slots → Drawn number home v work w
      → number work < length slots
  gather_inside count v w slots work g d =
      let h : slice_get homes (number work) ≡ Some (home work) = ap (λ l. slice_get l (number work)) (sym g.same) ∙ d.2 in
      let s = slice_get_within homes (number work) (home work) h in
      let t = g.places in
      omega arith

  -- and goes on with one work more
  pub gather_more : (count : ℕ) (v w : PoolView H) (slots : List (Option W)) (work : W) → IsGathering number home homes count v slots → Drawn number home v work w
      → IsGathering number home homes (count + 1) w (set slots (number work) (Some work))
  gather_more count v w slots work g d =
      let h : slice_get homes (number work) ≡ Some (home work) = ap (λ l. slice_get l (number work)) (sym g.same) ∙ d.2 in
      subst (λ u. IsGathering number home homes (count + 1) u (set slots (number work) (Some work))) (sym d.0)
      (record {
        live = g.live;
        last = g.last;
        same = g.same;
        out = let s = g.out in omega arith;
        places = length-set slots (number work) (Some work) ∙ g.places;
        placed = placed_more v.out slots work (gather_inside count v w slots work g d) h g.placed;
      })

  -- the queue is not empty while a work is missing
  pub gather_empty : (count : ℕ) (v : PoolView H) (slots : List (Option W)) (items : List W) → IsGathering number home homes count v slots
      → length items ≡ 0 → IsMoment number home v items → length homes ≤ count
  gather_empty count v slots items g none m =
      let s = left_all number home v items m g.live g.last in
      let t : length v.homes ≡ length homes = ap length g.same in
      let o = g.out in
      omega arith

  -- if as many are out as there are works, each is
  pub all_out : (v : PoolView H) (items : List W) → IsMoment number home v items → v.live ≡ true → IsLast v → length v.out ≡ length v.homes
      → (n : ℕ) → n < length v.homes → 0 < times n v.out
  all_out v items m live last all n below =
      let s = left_all number home v items m live last in
      let none : items ≡ [] = no_items items (omega arith) in
      let t = left_each number home v items m live last n in
      let z : times n (map number items) ≡ 0 = ap (λ l. times n (map number l)) none in
      let inside : nat_lt n (length v.homes) ≡ true = grind (arith, nat_tests, below) in
      let b : cond {A = ℕ} (nat_lt n (length v.homes)) 1 0 ≡ 1 = ap (λ b. cond {A = ℕ} b 1 0) inside in
      omega arith
    where
      no_items : (xs : List W) → length xs ≡ 0 → xs ≡ []
      no_items [] e = refl
      no_items (x ∷ xs) e = absurd (omega (arith, e))

  -- then each place holds the work of its number
  pub all_home : (count : ℕ) (v : PoolView H) (slots : List (Option W)) → IsGathering number home homes count v slots
      → ((n : ℕ) → n < length v.homes → 0 < times n v.out) → AreAllHome number home homes slots
  all_home count v slots g out =
      let t : length v.homes ≡ length homes = ap length g.same in
      (g.places, λ n below. g.placed n (out n (omega (arith, t, below))))

module _ {W H : Type 0} where
  -- the seats of a pool
  pub divided_seats : (pool : PoolValue) (first : PoolView H) (homes : List H) (count : Option ℕ) (seats : List (PoolSeat W H)) → first ≡ fresh_view 0 homes count
      → length homes ≡ pool.size → AreDivided pool.table first.homes seats
      → ((n : ℕ) (seat : PoolSeat W H) → slice_get seats n ≡ Some seat → (seen seat).number ≡ n → (seen seat).out ≡ [] → (seen seat).taken ≡ [] → ((c : ℕ) → (seen seat).count ≡ Some c → c ≡ length seats) → IsCounted pool seat)
      → AreSeats pool homes seats
  divided_seats pool first homes count seats e size all placed n seat h =
      let same : first.homes ≡ homes = ap (λ (v : PoolView H). v.homes) e in
      let a = all n seat h in
      let k : seen seat ≡ fresh_view n homes (cond {A = Option ℕ} (eqb n 0) (Some (length seats)) None) =
      a.2 ∙ ap (λ l. fresh_view n l (cond {A = Option ℕ} (eqb n 0) (Some (length seats)) None)) same in
      let count = ap (λ (v : PoolView H). cond {A = ℕ} (is_some v.count) pool.size 0) k in (
        (
          a.0,
          a.1,
          ap (λ (v : PoolView H). v.live) k,
          ap (λ (v : PoolView H). length v.homes) k ∙ size,
          a.3 ∙ ap (λ (l : List H). cond {A = ℕ} (eqb n 0) (length l) 0) same ∙ ap (λ m. cond {A = ℕ} (eqb n 0) m 0) size ∙ kept (eqb n 0) (length seats) pool.size ∙ sym count,
          placed n seat h (ap (λ (v : PoolView H). v.number) k) (ap (λ (v : PoolView H). v.out) k) (ap (λ (v : PoolView H). v.taken) k)
              (λ c f. counts (eqb n 0) c (sym (ap (λ (v : PoolView H). v.count) k) ∙ f)),
        ),
        k,
      )
    where
      counts : (b : Bool) (c : ℕ) → cond {A = Option ℕ} b (Some (length seats)) None ≡ Some c → c ≡ length seats
      counts true c f = sym (ap (λ o. unwrap_or o 0) f)
      counts false c f = absurd (false≢true (ap is_some f))

      kept : (b : Bool) (m size : ℕ) → cond {A = ℕ} b size 0 ≡ cond {A = ℕ} (is_some (cond {A = Option ℕ} b (Some m) None)) size 0
      kept true m size = refl
      kept false m size = refl

  -- one seat more, made of the one in front
  pub divided_more : (table : TableId) (homes : List H) (seats : List (PoolSeat W H)) (front after new : PoolSeat W H) → AreDivided table homes seats
      → slice_get seats 0 ≡ Some front
      → after.pass.table_id ≡ table → after.pass.me.1 ≡ [] → seen after ≡ counted (seen front)
      → new.pass.table_id ≡ table → new.pass.me.1 ≡ [] → seen new ≡ newcomer (seen front)
      → after.rooms ≡ front.rooms → new.rooms ≡ []
      → AreDivided table homes (set seats 0 after ++ new ∷ [])
  divided_more table homes [] front after new all at_front a b c d e f r q n seat h = absurd (false≢true (ap is_some at_front))
  divided_more table homes (x ∷ xs) front after new all at_front a b c d e f r q n seat h =
      ⊎_elim (old n)
      (λ (t : (n ≡ suc (length xs)) × (new ≡ seat)).
      subst
      (λ (z : ℕ × PoolSeat W H). (z.1.pass.table_id ≡ table) × (z.1.pass.me.1 ≡ []) × (seen z.1 ≡ fresh_view z.0 homes (cond {A = Option ℕ} (eqb z.0 0) (Some (length (after ∷ (xs ++ new ∷ [])))) None)) × (length z.1.rooms ≡ cond {A = ℕ} (eqb z.0 0) (length homes) 0))
      (λ k. (sym t.0 k, t.1 k))
      (d, e, last, ap (λ (l : List (Option W)). length l) q ∙ ap (λ b. cond {A = ℕ} b (length homes) 0) (sym (not_zero (length xs)))))
      (get_snoc (after ∷ xs) new n seat h)
    where
      first : seen front ≡ fresh_view 0 homes (Some (length (x ∷ xs)))
      first = (all 0 front at_front).2

      grown : length (x ∷ xs) + 1 ≡ length (after ∷ (xs ++ new ∷ []))
      grown = let l = length_snoc xs new in omega arith

      last : seen new ≡ fresh_view (suc (length xs)) homes (cond {A = Option ℕ} (eqb (suc (length xs)) 0) (Some (length (after ∷ (xs ++ new ∷ [])))) None)
      last = f ∙ ap newcomer first ∙ ap (λ b. fresh_view (suc (length xs)) homes (cond {A = Option ℕ} b (Some (length (after ∷ (xs ++ new ∷ [])))) None)) (sym (not_zero (length xs)))

      old : (m : ℕ) → slice_get (after ∷ xs) m ≡ Some seat
          → (seat.pass.table_id ≡ table) × (seat.pass.me.1 ≡ []) × (seen seat ≡ fresh_view m homes (cond {A = Option ℕ} (eqb m 0) (Some (length (after ∷ (xs ++ new ∷ [])))) None)) × (length seat.rooms ≡ cond {A = ℕ} (eqb m 0) (length homes) 0)
      old zero g =
          subst (λ (s : PoolSeat W H). (s.pass.table_id ≡ table) × (s.pass.me.1 ≡ []) × (seen s ≡ fresh_view 0 homes (Some (length (after ∷ (xs ++ new ∷ []))))) × (length s.rooms ≡ length homes))
          (ap (λ o. unwrap_or o after) g)
          (a, b, c ∙ ap counted first ∙ ap (λ l. fresh_view 0 homes (Some l)) grown, ap (λ (l : List (Option W)). length l) r ∙ (all 0 front at_front).3)
      old (suc m) g =
          let k = all (suc m) seat g in (
            k.0,
            k.1,
            k.2 ∙ ap (λ b. fresh_view (suc m) homes (cond {A = Option ℕ} b (Some (length (x ∷ xs))) None)) (not_zero m)
                ∙ ap (λ b. fresh_view (suc m) homes (cond {A = Option ℕ} b (Some (length (after ∷ (xs ++ new ∷ [])))) None)) (sym (not_zero m)),
            k.3,
          )

-- of equal views
pub live_same : {H : Type 0} {v w : PoolView H} → v ≡ w → v.live ≡ w.live
live_same {H} e = ap (λ (z : PoolView H). z.live) e

pub count_same : {H : Type 0} {v w : PoolView H} → v ≡ w → v.count ≡ w.count
count_same {H} e = ap (λ (z : PoolView H). z.count) e
