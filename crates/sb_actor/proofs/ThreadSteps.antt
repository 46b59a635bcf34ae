-- Each step of a thread keeps the rule.
use Rattle.std.proofs.Common.{◌≡◌, ◌≢◌, ℕ, ◌+◌, ◌*◌, ◌<◌, ◌≤◌, Bool, true, false, cond, eqb, ltb, ◌&&◌, List, [], ◌∷◌, ◌++◌, length, map, length-set, set, get_or, take, sym, refl, ap, ◌∙◌, subst, inl, inr, ⊎_elim, arith}
use Rattle.std.proofs.lemmas.Bool.Decides.{nat_tests}
use Rattle.std.proofs.lemmas.List.{append-nil, set-get_or}
use Rattle.std.proofs.lemmas.Grind.{common_steps}
use mathlib.Core.Option.{Option, none, some, some-injective, some-ne-none}
use native.Mathlib.Decide.{ℕ_discrete}
use lib.ListN.{get_elem?}
use Rattle.sb_actor.specs.Views.{Served, EndedCall, ThreadPlace, Try, Fill, Wait, Fetch, ThreadView, WorkerPlace, Look, WorkerView}
use Rattle.sb_actor.specs.Moves.{at, is_clean, no_call, IsBlock, Deed, met, wrote, thread_result, ThreadMay, take_it, fill, send, wait, fetch, free, abandon}
use Rattle.sb_actor.specs.Rule.{Owner, idle, filling, sent, has_reply, owner_of, Row, row, sees, ChannelInvariant, Reads, as_served, place, served_at, waiting, Agrees, Last, FitsThread, FitsWorker, Rule}
use Rattle.sb_actor.proofs.Lists.{at_below, at_set, take_snoc}
use Rattle.sb_actor.proofs.Rows.{put, put_else, upd, upd_here, upd_else, row_else, row_here, row_at, stands_more, stands_else}
use Rattle.sb_actor.proofs.Parts.{off, FreeFor, thread_else}

-- the state of a clean channel says who is at it
pub state_one : (m : Owner) (p : WorkerPlace) (f : Row) (x : ℕ) → ChannelInvariant m p f → f 0 ≡ x → x ≡ 1 → (m ≡ idle) × (p ≡ Look)
state_one idle p f x h e y = (refl, h.1)
state_one (filling k ws) p f x h e y = absurd (omega arith)
state_one (sent k b) p f x h e y = absurd (omega arith)
state_one (has_reply k b r) p f x h e y = absurd (omega arith)

pub state_not_five : (m : Owner) (p : WorkerPlace) (f : Row) (x : ℕ) → ChannelInvariant m p f → f 0 ≡ x → x ≡ 5 → ⊥
state_not_five idle p f x h e y = omega arith
state_not_five (filling k ws) p f x h e y = omega arith
state_not_five (sent k b) p f x h e y = omega arith
state_not_five (has_reply k b r) p f x h e y = omega arith

pub was_true : (n x : ℕ) → eqb n x ≡ true → n ≡ x
was_true n x e = grind (arith, nat_tests)

pub was_false : (n x : ℕ) → eqb n x ≡ false → n ≢ x
was_false n x e = grind (arith, nat_tests)

abbrev call : ℕ → List ℕ → List ℕ → EndedCall
call c b r = record { channel = c; block = b; reply = r }

abbrev pub tv : ℕ → List Bool → ThreadPlace → List EndedCall → ThreadView
tv k clean p h = record { number = k; clean = clean; place = p; ended_calls = h }

module _ (clean : List Bool) (words : List ℕ) (worker : WorkerView) (threads : List ThreadView) (r : Rule clean words worker threads) (i w : ℕ) where
  word_inside : (c j : ℕ) → c < length clean → w ≡ c * 65 + j → j < 65 → w < length words
  word_inside c j lc e lj = let z = r.sized in omega arith

  -- a step on a word of channel c
  thread_move : (c j : ℕ) (v v' : ThreadView) (d : Deed) (b : Bool) (m : Owner) → get_elem? threads i ≡ some v → c < length clean → w ≡ c * 65 + j → j < 65
      → (is_clean clean c ≡ true → FreeFor v.number (r.owners c)) → (is_clean clean c ≡ true → FreeFor v.number m)
      → (is_clean clean c ≡ true → ChannelInvariant m (sees c worker) (put j (wrote d b (get_or words w 0)) (row words c)))
      → Last worker.served c m
      → FitsThread clean (upd r.owners c m) worker.served i v'
      → Rule clean (set words w (wrote d b (get_or words w 0))) worker (set threads i v')
  thread_move c j v v' d b m at_i lc is lj was now chan last fits =
      record {
        owners = upd r.owners c m;
        sized = length-set words w (wrote d b (get_or words w 0)) ∙ r.sized;
        each_channel = λ x cl. chan_at x cl (ℕ_discrete x c);
        lasts = λ x cl. last_at x cl (ℕ_discrete x c);
        fits_worker =
            record {
              its_clean = r.fits_worker.its_clean;
              owners_there = λ x q cl o. let l = owner_at x q cl o (ℕ_discrete x c) in subst (λ z. q < z) (sym (length-set threads i v')) l;
              no_strangers = λ q l. r.fits_worker.no_strangers q (subst (λ z. z ≤ q) (length-set threads i v') l);
              of_threads = λ z x e cl. let b = r.fits_worker.of_threads z x e cl in (b.0, subst (λ y. b.0 < y) (sym (length-set threads i v')) b.1, b.2);
              replied = r.fits_worker.replied;
              replies = r.fits_worker.replies;
            };
        fits = λ x y e. ⊎_elim (λ (t : (x ≡ i) × (v' ≡ y)). subst (λ (z : ℕ × ThreadView). FitsThread clean (upd r.owners c m) worker.served z.0 z.1) (λ q. (sym t.0 q, t.1 q)) fits)
            (λ (t : (x ≢ i) × (get_elem? threads x ≡ some y)). other x t.0 y (r.fits x y t.1)) (at_set threads i x v' y e);
      }
    where
      x' : ℕ
      x' = wrote d b (get_or words w 0)

      inside : w < length words
      inside = word_inside c j lc is lj

      mine : FitsThread clean r.owners worker.served i v
      mine = r.fits i v at_i

      chan_at : (x : ℕ) → is_clean clean x ≡ true → Dec (x ≡ c) → ChannelInvariant (upd r.owners c m x) (sees x worker) (row (set words w (wrote d b (get_or words w 0))) x)
      chan_at x cl (yes e) =
          let here : ChannelInvariant m (sees c worker) (put j (wrote d b (get_or words w 0)) (row words c)) = chan (subst (λ y. is_clean clean y ≡ true) e cl) in
          let there : ChannelInvariant (upd r.owners c m c) (sees c worker) (row (set words w (wrote d b (get_or words w 0))) c) = subst (λ (y : Owner × Row). ChannelInvariant y.0 (sees c worker) y.1) (λ q. (sym (upd_here r.owners c m c refl) q, sym (row_here words w (wrote d b (get_or words w 0)) c j is lj inside) q)) here in
          subst (λ y. ChannelInvariant (upd r.owners c m y) (sees y worker) (row (set words w (wrote d b (get_or words w 0))) y)) (sym e) there
      chan_at x cl (no ne) = subst (λ (y : Owner × Row). ChannelInvariant y.0 (sees x worker) y.1) (λ q. (sym (upd_else r.owners c m x ne) q, sym (row_else words w (wrote d b (get_or words w 0)) c x j is lj ne) q)) (r.each_channel x cl)

      last_at : (x : ℕ) → is_clean clean x ≡ true → Dec (x ≡ c) → Last worker.served x (upd r.owners c m x)
      last_at x cl (yes e) = subst (λ y. Last worker.served y (upd r.owners c m y)) (sym e) (subst (Last worker.served c) (sym (upd_here r.owners c m c refl)) last)
      last_at x cl (no ne) = subst (Last worker.served x) (sym (upd_else r.owners c m x ne)) (r.lasts x cl)

      owner_at : (x q : ℕ) → is_clean clean x ≡ true → owner_of (upd r.owners c m x) ≡ some q → Dec (x ≡ c) → q < length threads
      owner_at x q cl o (yes e) = by_free (now (subst (λ y. is_clean clean y ≡ true) e cl)) (sym (ap owner_of (upd_here r.owners c m x e)) ∙ o)
        where
          by_free : FreeFor v.number m → owner_of m ≡ some q → q < length threads
          by_free (inl f) g = absurd (some-ne-none q (sym g ∙ f))
          by_free (inr f) g = subst (λ y. y < length threads) (some-injective v.number q (sym f ∙ g)) (subst (λ y. y < length threads) (sym mine.number) (at_below threads i v at_i))
      owner_at x q cl o (no ne) = r.fits_worker.owners_there x q cl (sym (ap owner_of (upd_else r.owners c m x ne)) ∙ o)

      other : (x : ℕ) → x ≢ i → (u : ThreadView) → FitsThread clean r.owners worker.served x u → FitsThread clean (upd r.owners c m) worker.served x u
      other x ne u f = thread_else clean r.owners worker.served v.number c m was now x u (λ e. ne (sym f.number ∙ e ∙ mine.number)) f

  -- a step that leaves its word as it was
  thread_look : (v v' : ThreadView) (d : Deed) (b : Bool) → get_elem? threads i ≡ some v → w < length words → wrote d b (get_or words w 0) ≡ get_or words w 0
      → FitsThread clean r.owners worker.served i v'
      → Rule clean (set words w (wrote d b (get_or words w 0))) worker (set threads i v')
  thread_look v v' d b at_i inside stays fits =
      record {
        owners = r.owners;
        sized = length-set words w (wrote d b (get_or words w 0)) ∙ r.sized;
        each_channel = subst (λ ws. (c : ℕ) → is_clean clean c ≡ true → ChannelInvariant (r.owners c) (sees c worker) (row ws c)) (sym same) r.each_channel;
        lasts = r.lasts;
        fits_worker = subst (λ n. FitsWorker clean r.owners n worker) (sym (length-set threads i v')) r.fits_worker;
        fits = λ x y e. ⊎_elim (λ (t : (x ≡ i) × (v' ≡ y)). subst (λ (z : ℕ × ThreadView). FitsThread clean r.owners worker.served z.0 z.1) (λ q. (sym t.0 q, t.1 q)) fits)
            (λ (t : (x ≢ i) × (get_elem? threads x ≡ some y)). r.fits x y t.1) (at_set threads i x v' y e);
      }
    where
      same : set words w (wrote d b (get_or words w 0)) ≡ words
      same = ap (set words w) stays ∙ set-get_or words w 0

  module _ (k : ℕ) (h : List EndedCall) where
    -- the rule after a step from place p
    abbrev After : ThreadPlace → Deed → Bool → Type 0
    After p d b = Rule clean (set words w (wrote d b (get_or words w 0))) worker (set threads i (thread_result (tv k clean p h) d b (get_or words w 0)))

    abbrev Old : ThreadPlace → Type 0
    Old p = FitsThread clean r.owners worker.served i (tv k clean p h)

    no_call_fits : (p : ThreadPlace) → Old p → ((c : ℕ) → place p ≡ some c → is_clean clean c ≡ false) → FitsThread clean r.owners worker.served i (tv k clean no_call (h ++ []))
    no_call_fits p o unclean =
        record {
          its_clean = o.its_clean;
          number = o.number;
          agrees = λ c e cl. absurd (some-ne-none c (sym e));
          only = λ c cl own. absurd (off (sym (unclean c (o.only c cl own)) ∙ cl));
          calls = o.calls ∙ ap (map as_served) (ap (λ l. h ++ l) (nothing (place p) unclean) ∙ sym (append-nil (h ++ [])));
          all_abandoned = λ _ c l. absurd (omega arith);
          handed_is_own = tt;
        }
      where
        nothing : (o : Option ℕ) → ((c : ℕ) → o ≡ some c → is_clean clean c ≡ false) → waiting clean r.owners o ≡ []
        nothing none u = refl
        nothing (some c) u = rw (u c refl)

    take_step : (c : ℕ) (f : Bool) → get_elem? threads i ≡ some (tv k clean (Try c f) h) → c < length clean → w ≡ at c 0 → (b : Bool) → met take_it (get_or words w 0) ≡ b → After (Try c f) take_it b
    take_step c f at_i lc is true e =
        let o : Old (Try c f) = r.fits i (tv k clean (Try c f) h) at_i in
        let one : get_or words w 0 ≡ 1 = was_true (get_or words w 0) 1 e in
        let was = λ (cl : is_clean clean c ≡ true). state_one (r.owners c) (sees c worker) (row words c) (get_or words w 0) (r.each_channel c cl) (row_at words w c 0 is (omega arith)) one in
        thread_move c 0 (tv k clean (Try c f) h) (thread_result (tv k clean (Try c f) h) take_it true (get_or words w 0)) take_it true (filling k []) at_i lc is (omega arith)
        (λ cl. inl (ap owner_of (was cl).0)) (λ cl. inr refl)
        (λ cl. (refl, (was cl).1, omega arith, λ q l. absurd (omega arith)))
        tt
        record {
          its_clean = o.its_clean;
          number = o.number;
          agrees = λ x q cl. upd_here r.owners c (filling k []) x (sym (some-injective c x q));
          only = λ x cl own. at_it o x cl own (ℕ_discrete x c);
          calls = o.calls ∙ ap (map as_served) (ap (λ l. h ++ l) (sym (nobody (is_clean clean c))) ∙ ap (λ l. l ++ cond (is_clean clean c) (served_at c (upd r.owners c (filling k []) c)) []) (sym (append-nil h)));
          all_abandoned = tt;
          handed_is_own = tt;
        }
      where
        at_it : Old (Try c f) → (x : ℕ) → is_clean clean x ≡ true → owner_of (upd r.owners c (filling k []) x) ≡ some k → Dec (x ≡ c) → some c ≡ some x
        at_it o x cl own (yes q) = ap some (sym q)
        at_it o x cl own (no ne) = absurd (some-ne-none x (sym (o.only x cl (sym (ap owner_of (upd_else r.owners c (filling k []) x ne)) ∙ own))))

        nobody : (b : Bool) → cond b (served_at c (upd r.owners c (filling k []) c)) [] ≡ []
        nobody true = ap (served_at c) (upd_here r.owners c (filling k []) c refl)
        nobody false = refl
    take_step c f at_i lc is false e =
        let o : Old (Try c f) = r.fits i (tv k clean (Try c f) h) at_i in
        let stays : FitsThread clean r.owners worker.served i (thread_result (tv k clean (Try c f) h) take_it false (get_or words w 0)) = by_last o (ltb (c + 1) (length clean)) in
        thread_look (tv k clean (Try c f) h) (thread_result (tv k clean (Try c f) h) take_it false (get_or words w 0)) take_it false at_i (word_inside c 0 lc is (omega arith)) refl stays
      where
        five : Old (Try c f) → (f && eqb (get_or words w 0) 5) ≡ true → (d : ℕ) → d < c + 1 → is_clean clean d ≡ false
        five o both d l = by_place (ℕ_discrete d c)
          where
            first : f ≡ true
            first = grind arith

            found : get_or words w 0 ≡ 5
            found = grind (arith, nat_tests)

            by_place : Dec (d ≡ c) → is_clean clean d ≡ false
            by_place (no ne) = o.all_abandoned first d (omega arith)
            by_place (yes q) = subst (λ x. is_clean clean x ≡ false) (sym q) (by_clean (is_clean clean c) refl)
              where
                by_clean : (b : Bool) → is_clean clean c ≡ b → is_clean clean c ≡ false
                by_clean true cl = absurd (state_not_five (r.owners c) (sees c worker) (row words c) (get_or words w 0) (r.each_channel c cl) (row_at words w c 0 is (omega arith)) found)
                by_clean false cl = cl

        by_last : Old (Try c f) → (b : Bool) → FitsThread clean r.owners worker.served i (tv k clean (cond b (Try (c + 1) (f && eqb (get_or words w 0) 5)) no_call) (h ++ []))
        by_last o true =
            record {
              its_clean = o.its_clean;
              number = o.number;
              agrees = λ x q cl. absurd (some-ne-none x (sym q));
              only = λ x cl own. absurd (some-ne-none x (sym (o.only x cl own)));
              calls = o.calls ∙ ap (map as_served) (sym (append-nil (h ++ [])));
              all_abandoned = λ both d l. five o both d l;
              handed_is_own = tt;
            }
        by_last o false = no_call_fits (Try c f) o (λ x q. absurd (some-ne-none x (sym q)))

    same_calls : (xs : List Served) (a b : List EndedCall) → xs ≡ map as_served (h ++ a) → a ≡ b → xs ≡ map as_served ((h ++ []) ++ b)
    same_calls xs a b e q = e ∙ ap (map as_served) (ap (λ l. h ++ l) q ∙ ap (λ l. l ++ b) (sym (append-nil h)))

    wait_nil : (owners : ℕ → Owner) (c : ℕ) → (is_clean clean c ≡ true → served_at c (owners c) ≡ []) → waiting clean owners (some c) ≡ []
    wait_nil owners c q = by_clean (is_clean clean c) refl
      where
        by_clean : (b : Bool) → is_clean clean c ≡ b → cond b (served_at c (owners c)) [] ≡ []
        by_clean true e = q e
        by_clean false e = refl

    keeps_place : (c : ℕ) (p : ThreadPlace) (m : Owner) → place p ≡ some c → Old p → (x : ℕ) → is_clean clean x ≡ true → owner_of (upd r.owners c m x) ≡ some k → some c ≡ some x
    keeps_place c p m at_c o x cl own = by_place (ℕ_discrete x c)
      where
        by_place : Dec (x ≡ c) → some c ≡ some x
        by_place (yes q) = ap some (sym q)
        by_place (no ne) = sym at_c ∙ o.only x cl (sym (ap owner_of (upd_else r.owners c m x ne)) ∙ own)

    fill_step : (x c : ℕ) (ws : List ℕ) → get_elem? threads i ≡ some (tv k clean (Fill c ws) h) → c < length clean → w ≡ at c (1 + length ws) → length ws < 64 → After (Fill c ws) (fill x) true
    fill_step x c ws at_i lc is l6 =
        let o : Old (Fill c ws) = r.fits i (tv k clean (Fill c ws) h) at_i in
        let m : Owner = filling k (ws ++ x ∷ []) in
        let more : length (ws ++ x ∷ []) ≤ 64 = grind (arith, common_steps) in
        let lj : 1 + length ws < 65 = omega arith in
        let ne : 0 ≢ 1 + length ws = omega arith in
        let old_chan = λ (cl : is_clean clean c ≡ true). subst (λ (y : Owner). ChannelInvariant y (sees c worker) (row words c)) (o.agrees c refl cl) (r.each_channel c cl) in
        thread_move c (1 + length ws) (tv k clean (Fill c ws) h) (thread_result (tv k clean (Fill c ws) h) (fill x) true (get_or words w 0)) (fill x) true m at_i lc is lj
        (λ cl. inr (ap owner_of (o.agrees c refl cl))) (λ cl. inr refl)
        (λ cl. let ch = old_chan cl in (put_else (1 + length ws) x (row words c) 0 ne ∙ ch.0, ch.1, more, stands_more ws x 1 (row words c) ch.3))
        tt
        record {
          its_clean = o.its_clean;
          number = o.number;
          agrees = λ y q cl. upd_here r.owners c m y (sym (some-injective c y q));
          only = keeps_place c (Fill c ws) m refl o;
          calls = same_calls _ _ _ o.calls (wait_nil r.owners c (λ cl. ap (served_at c) (o.agrees c refl cl)) ∙ sym (wait_nil (upd r.owners c m) c (λ cl. ap (served_at c) (upd_here r.owners c m c refl))));
          all_abandoned = tt;
          handed_is_own = tt;
        }

    send_step : (c : ℕ) (ws : List ℕ) → get_elem? threads i ≡ some (tv k clean (Fill c ws) h) → c < length clean → w ≡ at c 0 → IsBlock k ws → (b : Bool) → met send (get_or words w 0) ≡ b → After (Fill c ws) send b
    send_step c ws at_i lc is block true e =
        let o : Old (Fill c ws) = r.fits i (tv k clean (Fill c ws) h) at_i in
        let m : Owner = sent k ws in
        let old_chan = λ (cl : is_clean clean c ≡ true). subst (λ (y : Owner). ChannelInvariant y (sees c worker) (row words c)) (o.agrees c refl cl) (r.each_channel c cl) in
        thread_move c 0 (tv k clean (Fill c ws) h) (thread_result (tv k clean (Fill c ws) h) send true (get_or words w 0)) send true m at_i lc is (omega arith)
        (λ cl. inr (ap owner_of (o.agrees c refl cl))) (λ cl. inr refl)
        (λ cl. let ch = old_chan cl in (refl, block, subst (Reads ws (put 0 3 (row words c))) (sym ch.1) (stands_else ws (length ws) 1 (row words c) 0 3 (omega arith) ch.3)))
        tt
        record {
          its_clean = o.its_clean;
          number = o.number;
          agrees = λ y q cl. inl (upd_here r.owners c m y (sym (some-injective c y q)));
          only = keeps_place c (Fill c ws) m refl o;
          calls = same_calls _ _ _ o.calls (wait_nil r.owners c (λ cl. ap (served_at c) (o.agrees c refl cl)) ∙ sym (wait_nil (upd r.owners c m) c (λ cl. ap (served_at c) (upd_here r.owners c m c refl))));
          all_abandoned = tt;
          handed_is_own = block;
        }
    send_step c ws at_i lc is block false e =
        let o : Old (Fill c ws) = r.fits i (tv k clean (Fill c ws) h) at_i in
        thread_look (tv k clean (Fill c ws) h) (thread_result (tv k clean (Fill c ws) h) send false (get_or words w 0)) send false at_i (word_inside c 0 lc is (omega arith)) refl
        (no_call_fits (Fill c ws) o (λ x q. subst (λ y. is_clean clean y ≡ false) (some-injective c x q) (by_clean o (is_clean clean c) refl)))
      where
        by_clean : Old (Fill c ws) → (b : Bool) → is_clean clean c ≡ b → is_clean clean c ≡ false
        by_clean o true cl =
            let ch = subst (λ (y : Owner). ChannelInvariant y (sees c worker) (row words c)) (o.agrees c refl cl) (r.each_channel c cl) in
            let two : get_or words w 0 ≡ 2 = sym (row_at words w c 0 is (omega arith)) ∙ ch.0 in
            absurd (was_false (get_or words w 0) 2 e two)
        by_clean o false cl = cl

    wait_step : (c : ℕ) (b : List ℕ) → get_elem? threads i ≡ some (tv k clean (Wait c b) h) → c < length clean → w ≡ at c 0 → (hit : Bool) → met wait (get_or words w 0) ≡ hit → After (Wait c b) wait hit
    wait_step c b at_i lc is true e =
        let o : Old (Wait c b) = r.fits i (tv k clean (Wait c b) h) at_i in
        let four : get_or words w 0 ≡ 4 = was_true (get_or words w 0) 4 e in
        thread_look (tv k clean (Wait c b) h) (thread_result (tv k clean (Wait c b) h) wait true (get_or words w 0)) wait true at_i (word_inside c 0 lc is (omega arith)) refl
        record {
          its_clean = o.its_clean;
          number = o.number;
          agrees = λ y q cl. subst (λ x. Agrees k (Fetch c b []) (r.owners x)) (some-injective c y q) (acked_at four (subst (λ x. is_clean clean x ≡ true) (sym (some-injective c y q)) cl) (o.agrees c refl (subst (λ x. is_clean clean x ≡ true) (sym (some-injective c y q)) cl)));
          only = o.only;
          calls = same_calls _ _ _ o.calls refl;
          all_abandoned = tt;
          handed_is_own = o.handed_is_own;
        }
      where
        acked_at : get_or words w 0 ≡ 4 → is_clean clean c ≡ true → Agrees k (Wait c b) (r.owners c) → Agrees k (Fetch c b []) (r.owners c)
        acked_at four cl (inl q) =
            let ch = subst (λ (y : Owner). ChannelInvariant y (sees c worker) (row words c)) q (r.each_channel c cl) in
            let three : get_or words w 0 ≡ 3 = sym (row_at words w c 0 is (omega arith)) ∙ ch.0 in
            absurd (omega arith)
        acked_at four cl (inr q) = (q.0, q.1, omega arith, refl)
    wait_step c b at_i lc is false e =
        let o : Old (Wait c b) = r.fits i (tv k clean (Wait c b) h) at_i in
        thread_look (tv k clean (Wait c b) h) (thread_result (tv k clean (Wait c b) h) wait false (get_or words w 0)) wait false at_i (word_inside c 0 lc is (omega arith)) refl
        record { its_clean = o.its_clean; number = o.number; agrees = o.agrees; only = o.only; calls = same_calls _ _ _ o.calls refl; all_abandoned = tt; handed_is_own = o.handed_is_own }

    fetch_step : (c : ℕ) (b ws : List ℕ) → get_elem? threads i ≡ some (tv k clean (Fetch c b ws) h) → c < length clean → w ≡ at c (4 + length ws) → length ws < 12 → After (Fetch c b ws) fetch true
    fetch_step c b ws at_i lc is l2 =
        let o : Old (Fetch c b ws) = r.fits i (tv k clean (Fetch c b ws) h) at_i in
        let lj : 4 + length ws < 65 = omega arith in
        thread_look (tv k clean (Fetch c b ws) h) (thread_result (tv k clean (Fetch c b ws) h) fetch true (get_or words w 0)) fetch true at_i (word_inside c (4 + length ws) lc is lj) refl
        record {
          its_clean = o.its_clean;
          number = o.number;
          agrees = λ y q cl. subst (λ x. Agrees k (Fetch c b (ws ++ get_or words w 0 ∷ [])) (r.owners x)) (some-injective c y q) (more lj (subst (λ x. is_clean clean x ≡ true) (sym (some-injective c y q)) cl) (o.agrees c refl (subst (λ x. is_clean clean x ≡ true) (sym (some-injective c y q)) cl)));
          only = o.only;
          calls = same_calls _ _ _ o.calls refl;
          all_abandoned = tt;
          handed_is_own = o.handed_is_own;
        }
      where
        more : 4 + length ws < 65 → is_clean clean c ≡ true → Agrees k (Fetch c b ws) (r.owners c) → Agrees k (Fetch c b (ws ++ get_or words w 0 ∷ [])) (r.owners c)
        more lj cl q =
            let ch = subst (λ (y : Owner). ChannelInvariant y (sees c worker) (row words c)) q.1 (r.each_channel c cl) in
            let n : get_or words w 0 ≡ get_or q.0 (length ws) 0 = sym (row_at words w c (4 + length ws) is lj) ∙ ch.4 (length ws) l2 in
            let size : length q.0 ≡ 12 = ch.3.size in
            let longer : length (ws ++ get_or words w 0 ∷ []) ≡ length ws + 1 = grind (arith, common_steps) in
            let both : ws ++ get_or words w 0 ∷ [] ≡ take (length ws + 1) q.0 = ap (λ l. l ++ get_or words w 0 ∷ []) q.3 ∙ take_snoc q.0 (length ws) (get_or words w 0) (omega arith) n in
            (q.0, q.1, omega arith, both ∙ ap (λ z. take z q.0) (sym longer))

    free_step : (c : ℕ) (b ws : List ℕ) → get_elem? threads i ≡ some (tv k clean (Fetch c b ws) h) → c < length clean → w ≡ at c 0 → length ws ≡ 12 → After (Fetch c b ws) free true
    free_step c b ws at_i lc is l2 =
        let o : Old (Fetch c b ws) = r.fits i (tv k clean (Fetch c b ws) h) at_i in
        thread_move c 0 (tv k clean (Fetch c b ws) h) (thread_result (tv k clean (Fetch c b ws) h) free true (get_or words w 0)) free true idle at_i lc is (omega arith)
        (λ cl. inr (ap owner_of (o.agrees c refl cl).1)) (λ cl. inl refl)
        (λ cl. (refl, (subst (λ (y : Owner). ChannelInvariant y (sees c worker) (row words c)) (o.agrees c refl cl).1 (r.each_channel c cl)).2))
        tt
        record {
          its_clean = o.its_clean;
          number = o.number;
          agrees = λ x q cl. absurd (some-ne-none x (sym q));
          only = λ x cl own. by_place o x cl own (ℕ_discrete x c);
          calls = o.calls ∙ ap (map as_served) (ap (λ l. h ++ l) (by_clean o (is_clean clean c) refl) ∙ sym (append-nil (h ++ cond (is_clean clean c) (call c b ws ∷ []) [])));
          all_abandoned = λ _ x l. absurd (omega arith);
          handed_is_own = tt;
        }
      where
        by_place : Old (Fetch c b ws) → (x : ℕ) → is_clean clean x ≡ true → owner_of (upd r.owners c idle x) ≡ some k → Dec (x ≡ c) → none ≡ some x
        by_place o x cl own (yes q) = absurd (some-ne-none k (sym own ∙ ap owner_of (upd_here r.owners c idle x q)))
        by_place o x cl own (no ne) = absurd (ne (sym (some-injective c x (o.only x cl (sym (ap owner_of (upd_else r.owners c idle x ne)) ∙ own)))))

        by_clean : Old (Fetch c b ws) → (y : Bool) → is_clean clean c ≡ y → cond y (served_at c (r.owners c)) [] ≡ cond y (call c b ws ∷ []) []
        by_clean o true cl =
            let q = o.agrees c refl cl in
            let ch = subst (λ (y : Owner). ChannelInvariant y (sees c worker) (row words c)) q.1 (r.each_channel c cl) in
            let size : length q.0 ≡ 12 = ch.3.size in
            let whole : ws ≡ q.0 = q.3 ∙ grind (arith, common_steps) in
            ap (served_at c) q.1 ∙ ap (λ (l : List ℕ). call c b l ∷ []) (sym whole)
        by_clean o false cl = refl

    abandon_step : (c : ℕ) (b : List ℕ) → get_elem? threads i ≡ some (tv k clean (Wait c b) h) → c < length clean → w ≡ at c 0 → is_clean clean c ≡ false → After (Wait c b) abandon true
    abandon_step c b at_i lc is unclean =
        let o : Old (Wait c b) = r.fits i (tv k clean (Wait c b) h) at_i in
        thread_move c 0 (tv k clean (Wait c b) h) (thread_result (tv k clean (Wait c b) h) abandon true (get_or words w 0)) abandon true idle at_i lc is (omega arith)
        (λ cl. absurd (off (sym unclean ∙ cl))) (λ cl. inl refl) (λ cl. absurd (off (sym unclean ∙ cl)))
        tt
        record {
          its_clean = o.its_clean;
          number = o.number;
          agrees = λ x q cl. absurd (some-ne-none x (sym q));
          only = λ x cl own. by_place o x cl own (ℕ_discrete x c);
          calls = o.calls ∙ ap (map as_served) (ap (λ l. h ++ l) (ap (λ y. cond y (served_at c (r.owners c)) []) unclean) ∙ sym (append-nil (h ++ [])));
          all_abandoned = λ _ x l. absurd (omega arith);
          handed_is_own = tt;
        }
      where
        by_place : Old (Wait c b) → (x : ℕ) → is_clean clean x ≡ true → owner_of (upd r.owners c idle x) ≡ some k → Dec (x ≡ c) → none ≡ some x
        by_place o x cl own (yes q) = absurd (off (sym unclean ∙ subst (λ y. is_clean clean y ≡ true) q cl))
        by_place o x cl own (no ne) =
            let same : c ≡ x = some-injective c x (o.only x cl (sym (ap owner_of (upd_else r.owners c idle x ne)) ∙ own)) in
            absurd (ne (sym same))

    -- by place and deed
    pub thread_steps : (p : ThreadPlace) (d : Deed) → get_elem? threads i ≡ some (tv k clean p h) → ThreadMay (tv k clean p h) p w d → After p d (met d (get_or words w 0))
    thread_steps (Try c f) take_it at_i may = take_step c f at_i may.0 may.1 (met take_it (get_or words w 0)) refl
    thread_steps (Fill c ws) (fill x) at_i may = fill_step x c ws at_i may.0 may.1 may.2
    thread_steps (Fill c ws) send at_i may = send_step c ws at_i may.0 may.1 may.2 (met send (get_or words w 0)) refl
    thread_steps (Wait c b) wait at_i may = wait_step c b at_i may.0 may.1 (met wait (get_or words w 0)) refl
    thread_steps (Wait c b) abandon at_i may = abandon_step c b at_i may.0 may.1 may.2
    thread_steps (Fetch c b ws) fetch at_i may = fetch_step c b ws at_i may.0 may.1 may.2
    thread_steps (Fetch c b ws) free at_i may = free_step c b ws at_i may.0 may.1 may.2
    thread_steps p d at_i may = absurd may
