-- Each step on the count of the works that are in keeps its rule.
use Rattle.std.proofs.Common.{◌≡◌, ◌≢◌, ◌∙◌, ◌⊎◌, ℕ, zero, suc, ◌+◌, ◌-◌, ◌%◌, ◌^◌, ◌<◌, ◌≤◌, eqb, List, [], ◌∷◌, ◌++◌, length, length-set, set, get_or, get_or-set_same, replicate, refl, sym, ap, subst, ⊎_elim, arith}
use mathlib.Core.Option as raw
use prog.Atomic.{either}
use lib.ListN.{get_elem?}
use Rattle.atomic_table.specs.Table.{State, Allows, Splits, Joins, keeps}
use Rattle.atomic_table.proofs.Lists.{exchanged}
use Rattle.sb_pool.specs.declared.events.PoolEvent.{PoolEvent}
use Rattle.sb_pool.specs.declared.events.PoolEvent.TheVariants.{Put, Draw, Look}
use Rattle.sb_pool.specs.declared.events.SeatHistory.{SeatHistory}
use Rattle.sb_pool.specs.Events.{weigh, put_weight, draw_weight, AreIn, Begins, AllBegin, first_history, parted, newcomer_history, joined_history, spent_history, with_event}
use Rattle.sb_pool.specs.Counting.{total, FitsHistory, Counts, Placed, Looked, Tried, Added, count_word}
use Rattle.sb_pool.proofs.Places.{at_set, set_else, at_snoc}
use Rattle.sb_pool.proofs.Happened.{weigh_append, weigh_snoc, puts_put, puts_drawn, begins_self, begins_more, all_begin_on, all_begin_append, longer_begins, total_set, total_append, total_at}

abbrev Table : ℕ → ℕ → State (Unit {0}) SeatHistory → Type 0
Table works seats s = Counts works seats s.words s.views

fits_more : (events more : List PoolEvent) (v : SeatHistory) → FitsHistory events v → FitsHistory (events ++ more) v
fits_more events more v f =
    record {
      began = begins_more v.history events more f.began;
      taken = all_begin_on v.taken events (events ++ more) f.taken (more, refl);
      spent = f.spent;
    }

module _ (works seats : ℕ) (words : List ℕ) (views : List SeatHistory) (r : Counts works seats words views) (id : ℕ) (v : SeatHistory) (at_id : get_elem? views id ≡ raw.some v) (live : 0 < v.seats) where
  abbrev n : ℕ
  n = get_or words count_word 0

  abbrev fits : FitsHistory r.events v
  fits = r.each id v at_id

  here : (m : ℕ) → get_or (set words count_word m) count_word 0 ≡ m
  here m = let w = r.wide in get_or-set_same words count_word m 0 (omega (arith, w))

  -- one more event, which the seat saw
  pub event : (e : PoolEvent) (m out : ℕ) → AreIn (r.events ++ e ∷ []) m → m + out ≡ n + v.out
      → Counts works seats (set words count_word m) (set views id (with_event v r.events e out))
  event e m out counted outs =
      let w : SeatHistory = with_event v r.events e out in
      record {
        events = r.events ++ e ∷ [];
        wide = length-set words count_word m ∙ r.wide;
        counted = subst (AreIn (r.events ++ e ∷ [])) (sym (here m)) counted;
        sizes = let s = total_set (λ (z : SeatHistory). z.out) views id v w at_id in let q = r.sizes in let k = here m in omega (arith, s, q, k, outs);
        small = r.small;
        own = λ h.
            let s = total_set (λ (z : SeatHistory). weigh h z.own) views id v w at_id in
            let q = r.own h in
            let a = weigh_snoc h r.events e in
            let b = weigh_snoc h v.own e in
            omega (arith, s, q, a, b);
        all_seats = let s = total_set (λ (z : SeatHistory). z.seats) views id v w at_id in let q = r.all_seats in omega (arith, s, q);
        each = λ i u at_i.
            ⊎_elim
            (λ (t : (i ≡ id) × (w ≡ u)).
            subst (FitsHistory (r.events ++ e ∷ [])) t.1
            (record {
              began = begins_self (r.events ++ e ∷ []);
              taken = all_begin_on v.taken r.events (r.events ++ e ∷ []) fits.taken (e ∷ [], refl);
              spent = λ z. absurd (omega (arith, z, live));
            }))
            (λ (t : (i ≢ id) × (get_elem? views i ≡ raw.some u)). fits_more r.events (e ∷ []) u (r.each i u t.1))
            (at_set views id i w u at_i);
      }

  -- no event, and the word as it was
  pub still : Counts works seats (set words count_word n) (set views id v)
  still =
      record {
        events = r.events;
        wide = length-set words count_word n ∙ r.wide;
        counted = subst (AreIn r.events) (sym (here n)) r.counted;
        sizes = let s = total_set (λ (z : SeatHistory). z.out) views id v v at_id in let q = r.sizes in let k = here n in omega (arith, s, q, k);
        small = r.small;
        own = λ h. let s = total_set (λ (z : SeatHistory). weigh h z.own) views id v v at_id in let q = r.own h in omega (arith, s, q);
        all_seats = let s = total_set (λ (z : SeatHistory). z.seats) views id v v at_id in let q = r.all_seats in omega (arith, s, q);
        each = λ i u at_i.
            ⊎_elim
            (λ (t : (i ≡ id) × (v ≡ u)). subst (FitsHistory r.events) t.1 fits)
            (λ (t : (i ≢ id) × (get_elem? views i ≡ raw.some u)). r.each i u t.1)
            (at_set views id i v u at_i);
      }

  after_look : AreIn (r.events ++ Look v.number ∷ []) n
  after_look =
      let p = weigh_snoc put_weight r.events (Look v.number) in
      let d = weigh_snoc draw_weight r.events (Look v.number) in
      let c = r.counted in
      omega (arith, p, d, c)

  after_put : AreIn (r.events ++ Put v.number ∷ []) (n + 1)
  after_put =
      let p = weigh_snoc put_weight r.events (Put v.number) in
      let d = weigh_snoc draw_weight r.events (Put v.number) in
      let c = r.counted in
      omega (arith, p, d, c)

  after_draw : 0 < n → AreIn (r.events ++ Draw v.number ∷ []) (n - 1)
  after_draw some =
      let p = weigh_snoc put_weight r.events (Draw v.number) in
      let d = weigh_snoc draw_weight r.events (Draw v.number) in
      let c = r.counted in
      omega (arith, p, d, c, some)

  abbrev Steps : List (ℕ × (Unit {0})) → ℕ → (Placed → Type 0) → Type 0
  Steps out m then = (w : SeatHistory) × Counts works seats (set words count_word m) (set views id w) × then (w, out)

  pub looked : (out : List (ℕ × (Unit {0}))) → Steps out n (Looked (v, out) n)
  looked out = by n refl
    where
      by : (m : ℕ) → n ≡ m → Steps out n (Looked (v, out) n)
      by zero e = (
        with_event v r.events (Look v.number) v.out,
        event (Look v.number) n v.out after_look refl,
        record {
          slots = refl;
          none = λ _. record { before = r.events; began = fits.began; none = subst (AreIn r.events) e r.counted; is = refl };
          some = λ l. absurd (omega (arith, l, e));
        },
      )
      by (suc m) e = (v, still, record { slots = refl; none = λ z. absurd (omega (arith, z, e)); some = λ _. refl })

  pub tried : (out : List (ℕ × (Unit {0}))) (seen : ℕ) → 0 < seen → Steps out (either (eqb n seen) (seen - 1) n) (Tried seen (v, out) n)
  tried out seen some =
      exchanged n seen (seen - 1) (λ m. Steps out m (Tried seen (v, out) n))
      (λ e.
      let positive : 0 < n = omega (arith, some, e) in
      let one : (n - 1) + 1 ≡ n = omega (arith, positive) in
      subst (λ m. Steps out (m - 1) (Tried seen (v, out) n)) e (
        with_event v r.events (Draw v.number) (v.out + 1),
        event (Draw v.number) (n - 1) (v.out + 1) (after_draw positive) (omega (arith, positive)),
        record {
          slots = refl;
          same = λ _. record { before = r.events; began = fits.began; some = (n - 1, subst (AreIn r.events) (sym one) r.counted); is = refl };
          other = λ ne. absurd (ne e);
        },
      ))
      (λ ne. (v, still, record { slots = refl; same = λ e. absurd (ne e); other = λ _. refl }))

  pub added : (out : List (ℕ × (Unit {0}))) → 0 < v.out → Steps out ((n + 1) % 2 ^ 64) (Added (v, out))
  added out some =
      let low : v.out ≤ total (λ (z : SeatHistory). z.out) views = total_at (λ (z : SeatHistory). z.out) views id v at_id in
      let q = r.sizes in
      let small = r.small in
      let same : n + 1 ≡ (n + 1) % 2 ^ 64 = omega (arith, low, q, small, some) in
      subst (λ m. Steps out m (Added (v, out))) same (
        with_event v r.events (Put v.number) (v.out - 1),
        event (Put v.number) (n + 1) (v.out - 1) after_put (omega (arith, some)),
        record { slots = refl; put = record { before = r.events; began = fits.began; is = refl } },
      )

  -- one more seat
  pub split : 1 < v.seats → Counts works seats words (set views id (parted v) ++ newcomer_history v ∷ [])
  split many =
      let w : SeatHistory = parted v in
      let new : SeatHistory = newcomer_history v in
      let old : List SeatHistory = set views id w in
      record {
        events = r.events;
        wide = r.wide;
        counted = r.counted;
        sizes =
            let s = total_set (λ (z : SeatHistory). z.out) views id v w at_id in
            let t = total_append (λ (z : SeatHistory). z.out) old (new ∷ []) in
            let q = r.sizes in
            omega (arith, s, t, q);
        small = r.small;
        own = λ h.
            let s = total_set (λ (z : SeatHistory). weigh h z.own) views id v w at_id in
            let t = total_append (λ (z : SeatHistory). weigh h z.own) old (new ∷ []) in
            let q = r.own h in
            omega (arith, s, t, q);
        all_seats =
            let s = total_set (λ (z : SeatHistory). z.seats) views id v w at_id in
            let t = total_append (λ (z : SeatHistory). z.seats) old (new ∷ []) in
            let q = r.all_seats in
            omega (arith, s, t, q, many);
        each = λ i u at_i.
            ⊎_elim
            (λ (o : get_elem? old i ≡ raw.some u).
            ⊎_elim
            (λ (t : (i ≡ id) × (w ≡ u)). subst (FitsHistory r.events) t.1 (record { began = fits.began; taken = fits.taken; spent = λ z. absurd (omega (arith, z, many)) }))
            (λ (t : (i ≢ id) × (get_elem? views i ≡ raw.some u)). r.each i u t.1)
            (at_set views id i w u o))
            (λ (t : (i ≡ length old) × (new ≡ u)). subst (FitsHistory r.events) t.1 (record { began = fits.began; taken = tt; spent = λ z. absurd (omega (arith, z)) }))
            (at_snoc old new u i at_i);
      }

  -- a seat that took in another
  pub join : (other : ℕ) (w : SeatHistory) → other ≢ id → get_elem? (set views id (joined_history v w)) other ≡ raw.some w
      → Counts works seats words (set (set views id (joined_history v w)) other spent_history)
  join other w apart at_other =
      let both : SeatHistory = joined_history v w in
      let mid : List SeatHistory = set views id both in
      let fits_w : FitsHistory r.events w = r.each other w (sym (set_else views id other both apart) ∙ at_other) in
      record {
        events = r.events;
        wide = r.wide;
        counted = r.counted;
        sizes =
            let s = total_set (λ (z : SeatHistory). z.out) views id v both at_id in
            let t = total_set (λ (z : SeatHistory). z.out) mid other w spent_history at_other in
            let q = r.sizes in
            omega (arith, s, t, q);
        small = r.small;
        own = λ h.
            let s = total_set (λ (z : SeatHistory). weigh h z.own) views id v both at_id in
            let t = total_set (λ (z : SeatHistory). weigh h z.own) mid other w spent_history at_other in
            let a = weigh_append h v.own w.own in
            let q = r.own h in
            omega (arith, s, t, a, q);
        all_seats =
            let s = total_set (λ (z : SeatHistory). z.seats) views id v both at_id in
            let t = total_set (λ (z : SeatHistory). z.seats) mid other w spent_history at_other in
            let q = r.all_seats in
            omega (arith, s, t, q);
        each = λ i u at_i.
            ⊎_elim
            (λ (t : (i ≡ other) × (spent_history ≡ u)). subst (FitsHistory r.events) t.1 (record { began = (r.events, refl); taken = tt; spent = λ _. (refl, refl) }))
            (λ (o : (i ≢ other) × (get_elem? mid i ≡ raw.some u)).
            ⊎_elim
            (λ (t : (i ≡ id) × (both ≡ u)).
            subst (FitsHistory r.events) t.1
            (record {
              began = longer_begins v.history w.history r.events fits.began fits_w.began;
              taken = (fits.began, (fits_w.began, all_begin_append v.taken w.taken r.events fits.taken fits_w.taken));
              spent = λ z. absurd (omega (arith, z, live));
            }))
            (λ (t : (i ≢ id) × (get_elem? views i ≡ raw.some u)). r.each i u t.1)
            (at_set views id i both u o.1))
            (at_set mid other i spent_history u at_i);
      }

module _ (works seats slots id : ℕ) (me : Placed) (live : 0 < me.0.seats) where
  pub may_look : Allows (Table works seats) slots id me count_word (λ n. n) (Looked me)
  may_look s r homes at_id small =
      let step = looked works seats s.words s.views r id me.0 at_id live me.1 in
      (step.0, keeps, tt, step.1, step.2)

  pub may_take : (seen : ℕ) → 0 < seen → Allows (Table works seats) slots id me count_word (λ n. either (eqb n seen) (seen - 1) n) (Tried seen me)
  may_take seen some s r homes at_id small =
      let step = tried works seats s.words s.views r id me.0 at_id live me.1 seen some in
      (step.0, keeps, tt, step.1, step.2)

  pub may_add : 0 < me.0.out → Allows (Table works seats) slots id me count_word (λ n. (n + 1) % 2 ^ 64) (λ _. Added me)
  may_add some s r homes at_id small =
      let step = added works seats s.words s.views r id me.0 at_id live me.1 some in
      (step.0, keeps, tt, step.1, step.2)

pub may_split : (works seats id : ℕ) (v : SeatHistory) → 1 < v.seats → Splits (Table works seats) id v (parted v) (newcomer_history v)
may_split works seats id v many s r at_id = split works seats s.words s.views r id v at_id (omega (arith, many)) many

pub may_join : (works seats id : ℕ) (v : SeatHistory) (other : ℕ) (w : SeatHistory) → 0 < v.seats → Joins (Table works seats) id v other w (joined_history v w) spent_history
may_join works seats id v other w live s r at_id apart at_other = join works seats s.words s.views r id v at_id live other w apart at_other

-- a pool with all works in, and its first seat
pub opens : (works seats : ℕ) (words : List ℕ) → length words ≡ 33 → get_or words count_word 0 ≡ works → works < 2 ^ 64 → 0 < seats → Counts works seats words (first_history works seats ∷ [])
opens works seats words wide count small some =
    record {
      events = replicate works (Put 0);
      wide = wide;
      counted = let p = puts_put works in let d = puts_drawn works in omega (arith, p, d, count);
      sizes = omega (arith, count);
      small = small;
      own = λ h. omega arith;
      all_seats = omega arith;
      each = λ i u at_i. by i u at_i;
    }
  where
    by : (i : ℕ) (u : SeatHistory) → get_elem? (first_history works seats ∷ []) i ≡ raw.some u → FitsHistory (replicate works (Put 0)) u
    by zero u e =
        subst (FitsHistory (replicate works (Put 0))) (raw.some-injective (first_history works seats) u e)
        (record { began = begins_self (replicate works (Put 0)); taken = tt; spent = λ z. absurd (omega (arith, z, some)) })
    by (suc i) u e = absurd (raw.some-ne-none u (sym e))
