-- Each step keeps the rule of the pool.
use Rattle.std.proofs.Common.{◌≡◌, ◌≢◌, ◌⊎◌, ℕ, zero, suc, ◌+◌, ◌<◌, ◌≤◌, Bool, true, false, true≢false, cond, eqb, Option, Some, None, List, [], ◌∷◌, ◌++◌, length, length-set, set, map, refl, sym, ap, ◌∙◌, subst, inl, inr, ⊎_elim, arith}
use Rattle.std.specs.Prelude.{slice_get, option_map, unwrap_or, is_some, nat_lt}
use Rattle.std.specs.Option.{option_or}
use Rattle.std.proofs.lemmas.Bool.Decides.{nat_tests}
use Rattle.std.proofs.lemmas.Bool.{false≢true}
use mathlib.Core.Option as raw
use lib.ListN.{get_elem?}
use Rattle.crossbeam_queue.specs.Fifo.{Pushes, Pops, Forks, Merges, Learns}
use Rattle.sb_pool.specs.declared.protocol.PoolView.{PoolView}
use Rattle.sb_pool.specs.Views.{times, removed, kept, first_view, spent_view, with_home, with_out, with_back, counted, newcomer, with_taken, IsLast}
use Rattle.sb_pool.specs.Rule.{times_in, FitsSeat, PoolRule, Drawn, IsWithin, IsMoment}
use Rattle.sb_pool.proofs.Places.{at_set, set_else, at_snoc, at_below, length_snoc}
use Rattle.sb_pool.proofs.Counts.{times_append, times_snoc, map_snoc, times_removed, length_removed, times_in_set, times_in_append, times_in_at, times_in_two, only_in, outs_set, outs_append, outs_at, only_out, one_more, at_most_one, slice_longer, slice_last}

-- a number is counted where it is
here_once : (k : ℕ) → cond {A = ℕ} (eqb k k) 1 0 ≡ 1
here_once k = grind (arith, nat_tests)

module _ {H : Type 0} where
  -- each number below that of the seats is kept by one seat
  abbrev AreKept : List (PoolView H) → Type 0
  AreKept views = (k : ℕ) → times_in kept k views ≡ cond (nat_lt k (length views)) 1 0

  -- a seat that keeps the same numbers as before
  kept_set : (views : List (PoolView H)) (p : ℕ) (v w : PoolView H) → get_elem? views p ≡ raw.some v → kept w ≡ kept v → AreKept views → AreKept (set views p w)
  kept_set views p v w at_p same numbers k =
      let s = times_in_set kept k views p v w at_p in
      let q = numbers k in
      let e : times k (kept w) ≡ times k (kept v) = ap (times k) same in
      let l : cond {A = ℕ} (nat_lt k (length (set views p w))) 1 0 ≡ cond (nat_lt k (length views)) 1 0 =
      ap (λ n. cond {A = ℕ} (nat_lt k n) 1 0) (length-set views p w) in
      omega arith

  -- what a live seat keeps
  kept_live : (k : ℕ) (v : PoolView H) → v.live ≡ true → times k (kept v) ≡ times k (v.number ∷ v.taken)
  kept_live k v live = ap (λ b. times k (cond {A = List ℕ} b (v.number ∷ v.taken) [])) live

  -- a number that is kept is below that of the seats, and kept once
  kept_below : (views : List (PoolView H)) → AreKept views → (k : ℕ) → 0 < times_in kept k views → (k < length views) × (times_in kept k views ≤ 1)
  kept_below views numbers k some = by (nat_lt k (length views)) refl
    where
      by : (b : Bool) → nat_lt k (length views) ≡ b → (k < length views) × (times_in kept k views ≤ 1)
      by true e =
          let q = numbers k in
          let m = at_most_one (nat_lt k (length views)) in
          (grind (arith, nat_tests, e), omega arith)
      by false e =
          let q = numbers k in
          let z : cond {A = ℕ} (nat_lt k (length views)) 1 0 ≡ 0 = ap (λ b. cond {A = ℕ} b 1 0) e in
          absurd (omega arith)

  -- the last seat keeps each number below its count
  last_keeps : (v : PoolView H) → v.live ≡ true → (last : IsLast v) → (k : ℕ) → k < last.0 → 0 < times k (kept v)
  last_keeps v live last k below = by (last.2 k below)
    where
      by : (k ≡ v.number) ⊎ (0 < times k v.taken) → 0 < times k (kept v)
      by (inl e) =
          let s = kept_live k v live in
          let t : cond {A = ℕ} (eqb v.number k) 1 0 ≡ 1 = ap (λ n. cond {A = ℕ} (eqb n k) 1 0) (sym e) ∙ here_once k in
          omega arith
      by (inr e) = let s = kept_live k v live in omega arith

  module _ (homes : List H) (desk : ℕ) (views : List (PoolView H)) (p : ℕ) (v w : PoolView H)
      (fits : (i : ℕ) (u : PoolView H) → get_elem? views i ≡ raw.some u → FitsSeat homes desk (length views) i u) where
    -- all seats fit if the one that changed does
    all_fit : FitsSeat homes desk (length (set views p w)) p w → (i : ℕ) (u : PoolView H) → get_elem? (set views p w) i ≡ raw.some u
        → FitsSeat homes desk (length (set views p w)) i u
    all_fit own i u e =
        ⊎_elim
        (λ (t : (i ≡ p) × (w ≡ u)). subst (λ (z : ℕ × PoolView H). FitsSeat homes desk (length (set views p w)) z.0 z.1) (λ k. (sym t.0 k, t.1 k)) own)
        (λ (t : (i ≢ p) × (get_elem? views i ≡ raw.some u)). subst (λ n. FitsSeat homes desk n i u) (sym (length-set views p w)) (fits i u t.1))
        (at_set views p i w u e)

  -- a seat that has other numbers out fits as before
  outs_fit : (homes : List H) (desk : ℕ) (views : List (PoolView H)) (p : ℕ) (v : PoolView H) (out : List ℕ) → get_elem? views p ≡ raw.some v → v.live ≡ true
      → ((i : ℕ) (u : PoolView H) → get_elem? views i ≡ raw.some u → FitsSeat homes desk (length views) i u)
      → (i : ℕ) (u : PoolView H) → get_elem? (set views p (record v { out = out })) i ≡ raw.some u
      → FitsSeat homes desk (length (set views p (record v { out = out }))) i u
  outs_fit homes desk views p v out at_p live fits =
      let w : PoolView H = record v { out = out } in
      let f = fits p v at_p in
      all_fit homes desk views p v w fits
      (record {
        same = f.same;
        keeper = λ c h. ((f.keeper c h).0, (f.keeper c h).1 ∙ sym (length-set views p w));
        spent = λ h. absurd (true≢false (sym live ∙ h));
      })

  -- if a seat is the last one, no other has anything out
  others_out : (homes : List H) (desk : ℕ) (views : List (PoolView H)) (p : ℕ) (v : PoolView H) → get_elem? views p ≡ raw.some v → v.live ≡ true → AreKept views
      → ((i : ℕ) (u : PoolView H) → get_elem? views i ≡ raw.some u → FitsSeat homes desk (length views) i u) → IsLast v
      → (i : ℕ) (u : PoolView H) → i ≢ p → get_elem? views i ≡ raw.some u → u.out ≡ []
  others_out homes desk views p v at_p live numbers fits last i u apart e = by u.live refl
    where
      by : (b : Bool) → u.live ≡ b → u.out ≡ []
      by false h = (fits i u e).spent h
      by true h =
          let k = u.number in
          let long : last.0 ≡ length views = ((fits p v at_p).keeper last.0 last.1).1 in
          let s = kept_live k u h in
          let one = here_once k in
          let among = times_in_at kept k views i u e in
          let below = kept_below views numbers k (omega arith) in
          let inside = below.0 in
          let once = below.1 in
          let mine = last_keeps v live last k (omega arith) in
          let two = times_in_two kept k views i p u v apart e at_p in
          absurd (omega arith)

-- whose count it is
stays : {w : Option ℕ} {c : ℕ} (v : Option ℕ) → option_or v w ≡ Some c → w ≡ None → v ≡ Some c
stays None h e = absurd (false≢true (sym (ap is_some e) ∙ ap is_some h))
stays (Some d) h e = h

moved : {w : Option ℕ} {c : ℕ} (v : Option ℕ) → option_or v w ≡ Some c → v ≡ None → w ≡ Some c
moved None h e = h
moved (Some d) h e = absurd (true≢false (ap is_some e))

-- no number is below 0
none_below : (k : ℕ) → 0 ≡ cond {A = ℕ} (nat_lt k 0) 1 0
none_below k = by (nat_lt k 0) refl
  where
    by : (b : Bool) → nat_lt k 0 ≡ b → 0 ≡ cond {A = ℕ} b 1 0
    by true e = absurd (grind (arith, nat_tests, e))
    by false e = refl

module _ {W H : Type 0} (number : W → ℕ) (home : W → H) where
  first_fits : FitsSeat {H = H} [] 0 1 0 first_view
  first_fits = record {
    same = λ _. refl;
    keeper = λ c e. (refl, sym (ap (λ o. unwrap_or o 0) e));
    spent = λ h. absurd (true≢false h);
  }

  seat_fits : (i : ℕ) (v : PoolView H) → get_elem? (first_view {H = H} ∷ []) i ≡ raw.some v → FitsSeat {H = H} [] 0 1 i v
  seat_fits zero v e = subst (FitsSeat {H = H} [] 0 1 0) (raw.some-injective first_view v e) first_fits
  seat_fits (suc i) v e = absurd (raw.some-ne-none v (sym e))

  -- an empty queue with its first seat
  pub opens : PoolRule number home [] (first_view {H = H} ∷ [])
  opens = record {
    homes = [];
    desk = 0;
    once = λ k. let s = none_below k in omega arith;
    sizes = omega arith;
    there = λ n x e. absurd (raw.some-ne-none x (sym e));
    numbers = λ k. let s = none_below k in let m = one_more k 0 in omega arith;
    seats = seat_fits;
  }

  pub draws : (p : ℕ) (v : PoolView H) → v.live ≡ true → Pops (PoolRule number home) p v (Drawn number home v)
  draws p v live x items views r at_p =
      let w : PoolView H = with_out v (number x) in (
        w,
        record {
          homes = r.homes;
          desk = r.desk;
          once = λ k. let s = times_in_set (λ (z : PoolView H). z.out) k views p v w at_p in let q = r.once k in omega arith;
          sizes = let s = outs_set views p v w at_p in let q = r.sizes in omega arith;
          there = λ n y e. r.there (suc n) y e;
          numbers = kept_set views p v w at_p refl r.numbers;
          seats = outs_fit r.homes r.desk views p v (number x ∷ v.out) at_p live r.seats;
        },
        (
          refl,
          let q = r.once (number x) in
              let here = here_once (number x) in
              let most = at_most_one (nat_lt (number x) (length r.homes)) in
              let among = times_in_at (λ (z : PoolView H). z.out) (number x) views p v at_p in
              omega arith,
          ap (λ l. slice_get l (number x)) ((r.seats p v at_p).same live) ∙ r.there 0 x refl,
        ),
      )

  pub within : (p : ℕ) (v : PoolView H) → v.live ≡ true → Learns (PoolRule number home) p v (IsWithin v)
  within p v live items views r at_p =
      let s = outs_at views p v at_p in
      let q = r.sizes in
      let h : length v.homes ≡ length r.homes = ap length ((r.seats p v at_p).same live) in
      omega arith

  -- a look at the queue
  pub looks : (p : ℕ) (v : PoolView H) → Learns (PoolRule number home) p v (IsMoment number home v)
  looks p v items views r at_p = (views, p, r, at_p)

  -- if a seat is the last one, each number is in the queue or out with it
  pub left_all : (v : PoolView H) (items : List W) → IsMoment number home v items → v.live ≡ true → IsLast v → length items + length v.out ≡ length v.homes
  left_all v items m live last =
      let r = m.2 in
      let others = others_out r.homes r.desk m.0 m.1 v m.3 live r.numbers r.seats last in
      let h : length v.homes ≡ length r.homes = ap length ((r.seats m.1 v m.3).same live) in
      let s = only_out m.0 m.1 v m.3 others in
      let q = r.sizes in
      omega arith

  pub left_each : (v : PoolView H) (items : List W) → IsMoment number home v items → v.live ≡ true → IsLast v
      → (k : ℕ) → times k (map number items) + times k v.out ≡ cond (nat_lt k (length v.homes)) 1 0
  left_each v items m live last k =
      let r = m.2 in
      let others = others_out r.homes r.desk m.0 m.1 v m.3 live r.numbers r.seats last in
      let h : length v.homes ≡ length r.homes = ap length ((r.seats m.1 v m.3).same live) in
      let s = only_in (λ (z : PoolView H). z.out) k m.0 m.1 v m.3 others in
      let q = r.once k in
      let t : cond {A = ℕ} (nat_lt k (length v.homes)) 1 0 ≡ cond (nat_lt k (length r.homes)) 1 0 = ap (λ z. cond {A = ℕ} (nat_lt k z) 1 0) h in
      omega arith

  pub founds : (n p : ℕ) (v : PoolView H) (x : W) → v.live ≡ true → v.count ≡ Some 1 → number x ≡ length v.homes
      → Pushes (PoolRule number home) n p v x (λ w. w ≡ with_home v (home x))
  founds n p v x live count named items views room r at_p =
      let w : PoolView H = with_home v (home x) in
      let f = r.seats p v at_p in
      let same : v.homes ≡ r.homes = f.same live in
      let one : 1 ≡ length views = (f.keeper 1 count).1 in
      let first : p < length views = at_below views p v at_p in
      let long : number x ≡ length r.homes = named ∙ ap length same in (
        w,
        record {
          homes = r.homes ++ home x ∷ [];
          desk = r.desk;
          once = λ k.
              let s = times_in_set (λ (z : PoolView H). z.out) k views p v w at_p in
              let q = r.once k in
              let m : times k (map number (items ++ x ∷ [])) ≡ times k (map number items) + cond (eqb (number x) k) 1 0 =
              ap (times k) (map_snoc number items x) ∙ times_snoc k (map number items) (number x) in
              let l : cond {A = ℕ} (nat_lt k (length r.homes)) 1 0 + cond (eqb (number x) k) 1 0 ≡ cond (nat_lt k (length (r.homes ++ home x ∷ []))) 1 0 =
              ap (λ z. cond {A = ℕ} (nat_lt k (length r.homes)) 1 0 + cond (eqb z k) 1 0) long ∙ one_more k (length r.homes)
              ∙ ap (λ z. cond (nat_lt k z) 1 0) (sym (length_snoc r.homes (home x))) in
              omega arith;
          sizes =
              let s = outs_set views p v w at_p in
              let q = r.sizes in
              let l = length_snoc items x in
              let h = length_snoc r.homes (home x) in
              omega arith;
          there = λ m y e.
              ⊎_elim (λ (t : get_elem? items m ≡ raw.some y). slice_longer r.homes (home x) (number y) (home y) (r.there m y t))
              (λ (t : (m ≡ length items) × (x ≡ y)).
              subst (λ (z : W). slice_get (r.homes ++ home x ∷ []) (number z) ≡ Some (home z)) t.1
              (ap (slice_get (r.homes ++ home x ∷ [])) long ∙ slice_last r.homes (home x)))
              (at_snoc items x y m e);
          numbers = kept_set views p v w at_p refl r.numbers;
          seats = λ i u e.
              ⊎_elim
              (λ (t : (i ≡ p) × (w ≡ u)).
              subst (λ (z : ℕ × PoolView H). FitsSeat (r.homes ++ home x ∷ []) r.desk (length (set views p w)) z.0 z.1) (λ k. (sym t.0 k, t.1 k))
              (record {
                same = λ _. ap (λ l. l ++ home x ∷ []) same;
                keeper = λ c h. ((f.keeper c h).0, (f.keeper c h).1 ∙ sym (length-set views p w));
                spent = λ h. absurd (true≢false (sym live ∙ h));
              }))
              (λ (t : (i ≢ p) × (get_elem? views i ≡ raw.some u)).
              let apart = t.0 in
              let below = at_below views i u t.1 in
              absurd (apart (omega arith)))
              (at_set views p i w u e);
        },
        refl,
      )

  pub returns : (n p : ℕ) (v : PoolView H) (x : W) → v.live ≡ true → 0 < times (number x) v.out → slice_get v.homes (number x) ≡ Some (home x)
      → Pushes (PoolRule number home) n p v x (λ w. w ≡ with_back v (number x))
  returns n p v x live out at_home items views room r at_p =
      let w : PoolView H = with_back v (number x) in
      let f = r.seats p v at_p in (
        w,
        record {
          homes = r.homes;
          desk = r.desk;
          once = λ k.
              let s = times_in_set (λ (z : PoolView H). z.out) k views p v w at_p in
              let z = times_removed k (number x) v.out out in
              let m : times k (map number (items ++ x ∷ [])) ≡ times k (map number items) + cond (eqb (number x) k) 1 0 =
              ap (times k) (map_snoc number items x) ∙ times_snoc k (map number items) (number x) in
              let q = r.once k in
              omega arith;
          sizes =
              let s = outs_set views p v w at_p in
              let z = length_removed (number x) v.out out in
              let q = r.sizes in
              let l = length_snoc items x in
              omega arith;
          there = λ m y e.
              ⊎_elim (λ (t : get_elem? items m ≡ raw.some y). r.there m y t)
              (λ (t : (m ≡ length items) × (x ≡ y)).
              subst (λ (z : W). slice_get r.homes (number z) ≡ Some (home z)) t.1 (ap (λ l. slice_get l (number x)) (sym (f.same live)) ∙ at_home))
              (at_snoc items x y m e);
          numbers = kept_set views p v w at_p refl r.numbers;
          seats = outs_fit r.homes r.desk views p v (removed (number x) v.out) at_p live r.seats;
        },
        refl,
      )

  pub splits : (p : ℕ) (v : PoolView H) → v.live ≡ true → (c : ℕ) → v.count ≡ Some c → Forks (PoolRule number home) p v (counted v) (newcomer v)
  splits p v live c count items views r at_p =
      let w : PoolView H = counted v in
      let n : PoolView H = newcomer v in
      let old : List (PoolView H) = set views p w in
      let f = r.seats p v at_p in
      let long : c ≡ length views = (f.keeper c count).1 in
      let same_length : length old ≡ length views = length-set views p w in
      let longer : length (old ++ n ∷ []) ≡ length old + 1 = length_snoc old n in
      record {
        homes = r.homes;
        desk = r.desk;
        once = λ k.
            let s = times_in_set (λ (z : PoolView H). z.out) k views p v w at_p in
            let t = times_in_append (λ (z : PoolView H). z.out) k old (n ∷ []) in
            let q = r.once k in
            omega arith;
        sizes = let s = outs_set views p v w at_p in let t = outs_append old (n ∷ []) in let q = r.sizes in omega arith;
        there = r.there;
        numbers = λ k.
            let s = kept_set views p v w at_p refl r.numbers k in
            let t = times_in_append kept k old (n ∷ []) in
            let e : cond {A = ℕ} (eqb (unwrap_or v.count 0) k) 1 0 ≡ cond (eqb (length old) k) 1 0 =
            ap (λ z. cond {A = ℕ} (eqb z k) 1 0) (ap (λ o. unwrap_or o 0) count ∙ long ∙ sym same_length) in
            let m = one_more k (length old) in
            let l : cond {A = ℕ} (nat_lt k (length (old ++ n ∷ []))) 1 0 ≡ cond (nat_lt k (length old + 1)) 1 0 =
            ap (λ z. cond {A = ℕ} (nat_lt k z) 1 0) longer in
            omega arith;
        seats = λ i u e.
            ⊎_elim
            (λ (e : get_elem? old i ≡ raw.some u).
            ⊎_elim
            (λ (t : (i ≡ p) × (w ≡ u)).
            subst (λ (z : ℕ × PoolView H). FitsSeat r.homes r.desk (length (old ++ n ∷ [])) z.0 z.1) (λ k. (sym t.0 k, t.1 k))
            (record {
              same = f.same;
              keeper = λ d h. (
                (f.keeper c count).0,
                let e : c + 1 ≡ d = sym (ap (λ o. unwrap_or (option_map (λ c. c + 1) o) 0) count) ∙ ap (λ o. unwrap_or o 0) h in
                    omega arith,
              );
              spent = λ h. absurd (true≢false (sym live ∙ h));
            }))
            (λ (t : (i ≢ p) × (get_elem? views i ≡ raw.some u)).
            let g = r.seats i u t.1 in
            let apart = t.0 in
            record {
              same = g.same;
              keeper = λ d h. absurd (apart ((g.keeper d h).0 ∙ sym (f.keeper c count).0));
              spent = g.spent;
            })
            (at_set views p i w u e))
            (λ (t : (i ≡ length old) × (n ≡ u)).
            subst (λ (z : ℕ × PoolView H). FitsSeat r.homes r.desk (length (old ++ n ∷ [])) z.0 z.1) (λ k. (sym t.0 k, t.1 k))
            (record {
              same = λ _. f.same live;
              keeper = λ d h. absurd (false≢true (ap is_some h));
              spent = λ h. absurd (true≢false h);
            }))
            (at_snoc old n u i e);
      }

  module _ (p q : ℕ) (v w : PoolView H) (v_live : v.live ≡ true) (w_live : w.live ≡ true) (none : w.out ≡ []) (items : List W) (views : List (PoolView H))
      (r : PoolRule number home items views) (at_p : get_elem? views p ≡ raw.some v) (apart : q ≢ p) (at_q : get_elem? views q ≡ raw.some w) where
    abbrev both : PoolView H
    both = with_taken v w

    abbrev mid : List (PoolView H)
    mid = set views p both

    mid_q : get_elem? mid q ≡ raw.some w
    mid_q = set_else views p q both apart ∙ at_q

    abbrev last : List (PoolView H)
    last = set mid q spent_view

    long : length last ≡ length views
    long = length-set mid q spent_view ∙ length-set views p both

    -- what both seats kept is kept by the one
    kept_both : AreKept last
    kept_both k =
        let s = times_in_set kept k views p v both at_p in
        let t = times_in_set kept k mid q w spent_view mid_q in
        let a = kept_live k v v_live in
        let b = kept_live k w w_live in
        let c = kept_live k both v_live in
        let z = times_append k v.taken (w.number ∷ w.taken) in
        let l : cond {A = ℕ} (nat_lt k (length last)) 1 0 ≡ cond (nat_lt k (length views)) 1 0 = ap (λ n. cond {A = ℕ} (nat_lt k n) 1 0) long in
        let o = r.numbers k in
        omega arith

    -- the rule, if the count is kept at a place that suits both and all others
    rule_with : (desk : ℕ) → ((c : ℕ) → both.count ≡ Some c → (p ≡ desk) × (c ≡ length views))
        → ((i : ℕ) (u : PoolView H) → i ≢ p → i ≢ q → get_elem? views i ≡ raw.some u → (c : ℕ) → u.count ≡ Some c → (i ≡ desk) × (c ≡ length views))
        → PoolRule number home items last
    rule_with desk own others = record {
      homes = r.homes;
      desk = desk;
      once = λ k.
          let s = times_in_set (λ (z : PoolView H). z.out) k views p v both at_p in
          let t = times_in_set (λ (z : PoolView H). z.out) k mid q w spent_view mid_q in
          let z : times k w.out ≡ 0 = ap (times k) none in
          let o = r.once k in
          omega arith;
      sizes =
          let s = outs_set views p v both at_p in
          let t = outs_set mid q w spent_view mid_q in
          let z : length w.out ≡ 0 = ap length none in
          let o = r.sizes in
          omega arith;
      there = r.there;
      numbers = kept_both;
      seats = λ i u e.
          ⊎_elim
          (λ (t : (i ≡ q) × (spent_view ≡ u)).
          subst (λ (z : ℕ × PoolView H). FitsSeat r.homes desk (length last) z.0 z.1) (λ k. (sym t.0 k, t.1 k))
          (record {
            same = λ h. absurd (false≢true h);
            keeper = λ c h. absurd (false≢true (ap is_some h));
            spent = λ _. refl;
          }))
          (λ (t : (i ≢ q) × (get_elem? mid i ≡ raw.some u)).
          ⊎_elim
          (λ (m : (i ≡ p) × (both ≡ u)).
          subst (λ (z : ℕ × PoolView H). FitsSeat r.homes desk (length last) z.0 z.1) (λ k. (sym m.0 k, m.1 k))
          (record {
            same = (r.seats p v at_p).same;
            keeper = λ c h. ((own c h).0, (own c h).1 ∙ sym long);
            spent = λ h. absurd (true≢false (sym v_live ∙ h));
          }))
          (λ (m : (i ≢ p) × (get_elem? views i ≡ raw.some u)).
          let f = r.seats i u m.1 in
          record {
            same = f.same;
            keeper = λ c h. ((others i u m.0 t.0 m.1 c h).0, (others i u m.0 t.0 m.1 c h).1 ∙ sym long);
            spent = f.spent;
          })
          (at_set views p i both u t.1))
          (at_set mid q i spent_view u e);
    }

    -- the count stays if it is, or comes to the seat that takes the other in
    rule_after : PoolRule number home items last
    rule_after = by w.count refl v.count refl
      where
        by : (a : Option ℕ) → w.count ≡ a → (b : Option ℕ) → v.count ≡ b → PoolRule number home items last
        by None e b f =
            rule_with r.desk
            (λ c h. (r.seats p v at_p).keeper c (stays v.count h e))
            (λ i u _ _ at_i c h. (r.seats i u at_i).keeper c h)
        by (Some c) e (Some d) f = absurd (apart (((r.seats q w at_q).keeper c e).0 ∙ sym ((r.seats p v at_p).keeper d f).0))
        by (Some c) e None f =
            rule_with p
            (λ d h. (refl, ((r.seats q w at_q).keeper d (moved v.count h f)).1))
            (λ i u _ not_q at_i d h. absurd (not_q (((r.seats i u at_i).keeper d h).0 ∙ sym ((r.seats q w at_q).keeper c e).0)))

  pub merges : (p : ℕ) (v : PoolView H) (q : ℕ) (w : PoolView H) → v.live ≡ true → w.live ≡ true → w.out ≡ []
      → Merges (PoolRule number home) p v q w (with_taken v w) spent_view
  merges p v q w v_live w_live none items views r at_p apart at_q =
      rule_after p q v w v_live w_live none items views r at_p apart
      (sym (set_else views p q (with_taken v w) apart) ∙ at_q)
