-- Each step of the worker keeps the rule.
use Rattle.std.proofs.Common.{◌≡◌, ◌≢◌, ◌⊎◌, ℕ, ◌+◌, ◌*◌, ◌/◌, ◌<◌, ◌≤◌, Bool, true, false, cond, eqb, ltb, leb, ◌&&◌, List, [], ◌∷◌, ◌++◌, length, map, length-set, set, get_or, take, sym, refl, ap, ◌∙◌, subst, inl, inr, ⊎_elim, arith, eq-eqb, ne_eqb}
use Rattle.std.specs.List.{filter}
use Rattle.std.proofs.lemmas.Bool.Decides.{nat_tests}
use Rattle.std.proofs.lemmas.List.{append-nil}
use Rattle.std.proofs.lemmas.List.Elements.{filter-append}
use Rattle.std.proofs.lemmas.Grind.{common_steps}
use mathlib.Core.Option.{some, some-injective}
use native.Mathlib.Decide.{ℕ_discrete}
use lib.ListN.{get_elem?}
use Rattle.sb_block.specs.Copies.{Copied, copied, is_end, whole, mark_of}
use Rattle.sb_block.specs.Packing.{offset_of}
use Rattle.sb_actor.specs.Views.{Served, EndedCall, ThreadPlace, Try, Fill, Wait, Fetch, ThreadView, WorkerPlace, Look, Count, End, Copy, Whole, Reply, WorkerView}
use Rattle.sb_actor.specs.Moves.{at, is_clean, next, IsBlock, Deed, met, wrote, counted, ended_at, copied_to, worker_result, WorkerMay, look, load_count, load_end, copy, answer, acknowledge}
use Rattle.sb_actor.specs.Ranges.{IsReplyTo}
use Rattle.sb_actor.specs.Rule.{Owner, idle, filling, sent, has_reply, owner_of, Row, row, sees, AreIn, ChannelInvariant, Reads, is_of, calls_of, as_served, place, served_at, waiting, Agrees, Replies, is_on, Last, FitsThread, FitsWorker, Rule}
use Rattle.sb_actor.proofs.Lists.{at_snoc, take_snoc}
use Rattle.sb_actor.proofs.Rows.{put, put_here, put_else, upd, upd_here, upd_else, row_else, row_here, row_at, stands_more, stands_else}
use Rattle.sb_actor.proofs.Parts.{off, thread_else}
use Rattle.sb_actor.proofs.ThreadSteps.{was_true, was_false}

-- who is at a clean channel in state 3, or at which the worker is engaged
pub record AtReady (m : Owner) (p : WorkerPlace) (f : Row) : Type 0 where
  pub number : ℕ
  pub block : List ℕ
  pub is : m ≡ sent number block
  pub state : f 0 ≡ 3
  pub whole_block : IsBlock number block
  pub reads : Reads block f p

state_three : (m : Owner) (p : WorkerPlace) (f : Row) → ChannelInvariant m p f → f 0 ≡ 3 → AtReady m p f
state_three idle p f h e = absurd (omega arith)
state_three (filling k ws) p f h e = absurd (omega arith)
state_three (sent k b) p f h e = record { number = k; block = b; is = refl; state = h.0; whole_block = h.1; reads = h.2 }
state_three (has_reply k b r) p f h e = absurd (omega arith)

engaged : (m : Owner) (p : WorkerPlace) (f : Row) → ChannelInvariant m p f → p ≢ Look → AtReady m p f
engaged idle p f h e = absurd (e h.1)
engaged (filling k ws) p f h e = absurd (e h.1)
engaged (sent k b) p f h e = record { number = k; block = b; is = refl; state = h.0; whole_block = h.1; reads = h.2 }
engaged (has_reply k b r) p f h e = absurd (e h.2)

at_ready : (m : Owner) (p : WorkerPlace) (f : Row) (k : ℕ) (b : List ℕ) → m ≡ sent k b → f 0 ≡ 3 → IsBlock k b → Reads b f p → ChannelInvariant m p f
at_ready m p f k b is three whole reads = subst (λ y. ChannelInvariant y p f) (sym is) (three, whole, reads)

-- a word that is written as it was
put_same : (j x : ℕ) (f : Row) → f j ≡ x → put j x f ≡ f
put_same j x f e q i = by_place i (ℕ_discrete i j) q
  where
    by_place : (i : ℕ) → Dec (i ≡ j) → put j x f i ≡ f i
    by_place i (yes s) = put_here j x f i s ∙ sym e ∙ ap f (sym s)
    by_place i (no n) = put_else j x f i n

pub sees_here : (v : WorkerView) (c : ℕ) → c ≡ v.channel → sees c v ≡ v.place
sees_here v c e = rw (eq-eqb c v.channel e)

pub sees_else : (v : WorkerView) (c : ℕ) → c ≢ v.channel → sees c v ≡ Look
sees_else v c n = rw (ne_eqb c v.channel n)

pub sees_look : (v : WorkerView) (c : ℕ) → v.place ≡ Look → sees c v ≡ Look
sees_look v c e = by_test (eqb c v.channel)
  where
    by_test : (b : Bool) → cond b v.place Look ≡ Look
    by_test true = e
    by_test false = refl

pub calls_push : (clean : List Bool) (k : ℕ) (xs : List Served) (x : Served) → calls_of clean k (xs ++ x ∷ []) ≡ calls_of clean k xs ++ cond (is_of clean k x) (x ∷ []) []
calls_push clean k xs x = filter-append (is_of clean k) xs (x ∷ [])

map_snoc : {A B : Type 0} (f : A → B) (xs : List A) (x : A) → map f (xs ++ x ∷ []) ≡ map f xs ++ f x ∷ []
map_snoc f [] x = refl
map_snoc f (y ∷ xs) x = ap (λ l. f y ∷ l) (map_snoc f xs x)

abbrev call : ℕ → List ℕ → List ℕ → EndedCall
call c b r = record { channel = c; block = b; reply = r }

abbrev serve : ℕ → Copied → List ℕ → Served
serve c t r = record { channel = c; taken = t; reply = r }

abbrev pub wv : List Bool → ℕ → WorkerPlace → List Served → WorkerView
wv cl c p sv = record { clean = cl; channel = c; place = p; served = sv }

-- words that were copied up to their end are the block
whole_take : (ws b : List ℕ) (n : ℕ) → ws ≡ take n b → n ≡ length b → ws ≡ b
whole_take ws b n e l = e ∙ grind (arith, common_steps)

module _ (clean : List Bool) (words : List ℕ) (threads : List ThreadView) (w : ℕ) where
  abbrev n : ℕ
  n = length threads

  -- a step on a word of channel c, at which the worker is
  worker_move : (c j : ℕ) (v v' : WorkerView) (d : Deed) (b : Bool) (r : Rule clean words v threads) (owners : ℕ → Owner) → c < length clean → w ≡ c * 65 + j → j < 65
      → ((x : ℕ) → x ≢ c → owners x ≡ r.owners x)
      → ((x : ℕ) → x ≢ c → sees x v' ≡ sees x v)
      → (is_clean clean c ≡ true → ChannelInvariant (owners c) (sees c v') (put j (wrote d b (get_or words w 0)) (row words c)))
      → ((x : ℕ) → is_clean clean x ≡ true → Last v'.served x (owners x))
      → FitsWorker clean owners n v'
      → ((x : ℕ) (u : ThreadView) → FitsThread clean r.owners v.served x u → FitsThread clean owners v'.served x u)
      → Rule clean (set words w (wrote d b (get_or words w 0))) v' threads
  worker_move c j v v' d b r owners lc is lj same away chan lasts fits each =
      record {
        owners = owners;
        sized = length-set words w (wrote d b (get_or words w 0)) ∙ r.sized;
        each_channel = λ x cl. chan_at x cl (ℕ_discrete x c);
        lasts = lasts;
        fits_worker = fits;
        fits = λ x u e. each x u (r.fits x u e);
      }
    where
      inside : w < length words
      inside = let z = r.sized in omega arith

      chan_at : (x : ℕ) → is_clean clean x ≡ true → Dec (x ≡ c) → ChannelInvariant (owners x) (sees x v') (row (set words w (wrote d b (get_or words w 0))) x)
      chan_at x cl (yes e) =
          let here : ChannelInvariant (owners c) (sees c v') (put j (wrote d b (get_or words w 0)) (row words c)) = chan (subst (λ y. is_clean clean y ≡ true) e cl) in
          let there : ChannelInvariant (owners c) (sees c v') (row (set words w (wrote d b (get_or words w 0))) c) = subst (ChannelInvariant (owners c) (sees c v')) (sym (row_here words w (wrote d b (get_or words w 0)) c j is lj inside)) here in
          subst (λ y. ChannelInvariant (owners y) (sees y v') (row (set words w (wrote d b (get_or words w 0))) y)) (sym e) there
      chan_at x cl (no ne) = subst (λ (y : Owner × WorkerPlace × Row). ChannelInvariant y.0 y.1 y.2) (λ q. (sym (same x ne) q, sym (away x ne) q, sym (row_else words w (wrote d b (get_or words w 0)) c x j is lj ne) q)) (r.each_channel x cl)

  module _ (c : ℕ) (sv : List Served) (lc : c < length clean) where
    abbrev V : WorkerPlace → WorkerView
    V p = wv clean c p sv

    abbrev After : WorkerPlace → Deed → Bool → Type 0
    After p d b = Rule clean (set words w (wrote d b (get_or words w 0))) (worker_result (V p) d b (get_or words w 0)) threads

    -- the view after a step at which nothing is served
    abbrev U : ℕ → WorkerPlace → WorkerView
    U c' p' = wv clean c' p' (sv ++ [])

    plain : (j : ℕ) (p p' : WorkerPlace) (c' : ℕ) (d : Deed) (b : Bool) (r : Rule clean words (V p) threads) → w ≡ c * 65 + j → j < 65
        → (c' ≡ c) ⊎ ((p ≡ Look) × (p' ≡ Look)) → Replies p'
        → (is_clean clean c ≡ true → ChannelInvariant (r.owners c) (sees c (U c' p')) (put j (wrote d b (get_or words w 0)) (row words c)))
        → Rule clean (set words w (wrote d b (get_or words w 0))) (U c' p') threads
    plain j p p' c' d b r is lj where_to rep chan =
        worker_move c j (V p) (U c' p') d b r r.owners lc is lj (λ x ne. refl) (λ x ne. elsewhere x ne where_to) chan
        (λ x cl. subst (λ l. Last l x (r.owners x)) (sym (append-nil sv)) (r.lasts x cl))
        (subst (λ l. FitsWorker clean r.owners n (wv clean c' p' l)) (sym (append-nil sv))
        record {
          its_clean = r.fits_worker.its_clean;
          owners_there = r.fits_worker.owners_there;
          no_strangers = r.fits_worker.no_strangers;
          of_threads = r.fits_worker.of_threads;
          replied = r.fits_worker.replied;
          replies = rep;
        })
        (λ x u f. subst (λ l. FitsThread clean r.owners l x u) (sym (append-nil sv)) f)
      where
        elsewhere : (x : ℕ) → x ≢ c → (c' ≡ c) ⊎ ((p ≡ Look) × (p' ≡ Look)) → sees x (U c' p') ≡ sees x (V p)
        elsewhere x ne (inl e) = sees_else (U c' p') x (λ s. ne (s ∙ e)) ∙ sym (sees_else (V p) x ne)
        elsewhere x ne (inr e) = sees_look (U c' p') x e.1 ∙ sym (sees_look (V p) x e.0)

    -- the channel at which the worker is engaged
    ready_here : (p : WorkerPlace) (r : Rule clean words (V p) threads) → p ≢ Look → is_clean clean c ≡ true → AtReady (r.owners c) p (row words c)
    ready_here p r e cl = subst (λ y. AtReady (r.owners c) y (row words c)) (sees_here (V p) c refl) (engaged (r.owners c) (sees c (V p)) (row words c) (r.each_channel c cl) (λ s. e (sym (sees_here (V p) c refl) ∙ s)))

    -- a load at the channel: the row stays, and the worker is at another place
    still : (j : ℕ) (p' : WorkerPlace) (d : Deed) (k : Owner) → w ≡ c * 65 + j → j < 65 → ChannelInvariant k p' (row words c) → ChannelInvariant k (sees c (U c p')) (put j (get_or words w 0) (row words c))
    still j p' d k is lj h =
        subst (λ (y : WorkerPlace × Row). ChannelInvariant k y.0 y.1) (λ z. (sym (sees_here (U c p') c refl) z, sym (put_same j (get_or words w 0) (row words c) (row_at words w c j is lj)) z)) h

    look_step : (r : Rule clean words (V Look) threads) → w ≡ at c 0 → (b : Bool) → met look (get_or words w 0) ≡ b → After Look look b
    look_step r is true e =
        let three : row words c 0 ≡ 3 = row_at words w c 0 is (omega arith) ∙ was_true (get_or words w 0) 3 e in
        plain 0 Look Count c look true r is (omega arith) (inl refl) tt
        (λ cl.
        let q : AtReady (r.owners c) Look (row words c) = subst (λ y. AtReady (r.owners c) y (row words c)) (sees_look (V Look) c refl) (state_three (r.owners c) (sees c (V Look)) (row words c) (r.each_channel c cl) three) in
        still 0 Count look (r.owners c) is (omega arith) (at_ready (r.owners c) Count (row words c) q.number q.block q.is three q.whole_block q.reads))
    look_step r is false e =
        plain 0 Look Look (next clean c) look false r is (omega arith) (inr (refl, refl)) tt
        (λ cl. subst (λ (y : WorkerPlace × Row). ChannelInvariant (r.owners c) y.0 y.1) (λ z. ((sees_look (V Look) c refl ∙ sym (sees_look (U (next clean c) Look) c refl)) z, sym (put_same 0 (get_or words w 0) (row words c) (row_at words w c 0 is (omega arith))) z)) (r.each_channel c cl))

    count_step : (r : Rule clean words (V Count) threads) → w ≡ at c 3 → After Count load_count true
    count_step r is =
        plain 3 Count (counted (get_or words w 0)) c load_count true r is (omega arith) (inl refl) (quiet (ltb 9 (get_or words w 0)))
        (λ cl.
        let q = ready_here Count r (λ s. cc) cl in
        let low = q.whole_block.low in
        let found : get_or words w 0 ≡ get_or q.block 2 0 = sym (row_at words w c 3 is (omega arith)) ∙ q.reads 2 (omega arith) in
        still 3 (counted (get_or words w 0)) load_count (r.owners c) is (omega arith) (by_test q found (ltb 9 (get_or words w 0)) refl))
      where
        quiet : (b : Bool) → Replies (cond b (Whole (copied (get_or words w 0) 0 [])) (End (get_or words w 0)))
        quiet true = tt
        quiet false = tt

        by_test : (q : AtReady (r.owners c) Count (row words c)) → get_or words w 0 ≡ get_or q.block 2 0 → (b : Bool) → ltb 9 (get_or words w 0) ≡ b
            → ChannelInvariant (r.owners c) (cond b (Whole (copied (get_or words w 0) 0 [])) (End (get_or words w 0))) (row words c)
        by_test q found true e = let few = q.whole_block.few in absurd (grind (arith, nat_tests))
        by_test q found false e = at_ready (r.owners c) (End (get_or words w 0)) (row words c) q.number q.block q.is q.state q.whole_block (q.reads, found)

    end_step : (k : ℕ) (r : Rule clean words (V (End k)) threads) → w ≡ at c (16 + k) → k ≤ 9 → After (End k) load_end true
    end_step k r is few =
        let lj : 16 + k < 65 = omega arith in
        plain (16 + k) (End k) (ended_at k (offset_of (get_or words w 0))) c load_end true r is lj (inl refl) (quiet (is_end k (offset_of (get_or words w 0))))
        (λ cl.
        let q = ready_here (End k) r (λ s. cc) cl in
        let rd = q.reads in
        let low = q.whole_block.low in
        let same : k ≡ get_or q.block 2 0 = rd.1 in
        let stands : row words c (1 + (15 + k)) ≡ get_or q.block (15 + k) 0 = rd.0 (15 + k) (omega arith) in
        let one : 1 + (15 + k) ≡ 16 + k = omega arith in
        let found : get_or words w 0 ≡ get_or q.block (15 + k) 0 = sym (row_at words w c (16 + k) is lj) ∙ ap (row words c) (sym one) ∙ stands in
        let end : offset_of (get_or words w 0) ≡ length q.block = ap offset_of (found ∙ ap (λ z. get_or q.block (15 + z) 0) same) ∙ q.whole_block.end in
        still (16 + k) (ended_at k (offset_of (get_or words w 0))) load_end (r.owners c) is lj (by_test q same end (is_end k (offset_of (get_or words w 0))) refl))
      where
        quiet : (b : Bool) → Replies (cond b (Copy k (offset_of (get_or words w 0)) []) (Whole (copied k (offset_of (get_or words w 0)) [])))
        quiet true = tt
        quiet false = tt

        by_test : (q : AtReady (r.owners c) (End k) (row words c)) → k ≡ get_or q.block 2 0 → offset_of (get_or words w 0) ≡ length q.block → (b : Bool) → is_end k (offset_of (get_or words w 0)) ≡ b
            → ChannelInvariant (r.owners c) (cond b (Copy k (offset_of (get_or words w 0)) []) (Whole (copied k (offset_of (get_or words w 0)) []))) (row words c)
        by_test q same end true e =
            let low = q.whole_block.low in
            let some : 0 < offset_of (get_or words w 0) = subst (λ z. 0 < z) (sym end) (omega arith) in
            at_ready (r.owners c) (Copy k (offset_of (get_or words w 0)) []) (row words c) q.number q.block q.is q.state q.whole_block (q.reads.0, same, end, some, refl)
        by_test q same end false e =
            let low = q.whole_block.low in
            let high = q.whole_block.high in
            absurd (ends_there k (offset_of (get_or words w 0)) (length q.block) (get_or q.block 2 0) same end low high e)
          where
            ends_there : (k o l z : ℕ) → k ≡ z → o ≡ l → 16 + z ≤ l → l ≤ 64 → (leb (16 + k) o && leb o 64) ≡ false → ⊥
            ends_there k o l z s e lo hi f = grind (arith, nat_tests)

    copy_step : (k e : ℕ) (ws : List ℕ) (r : Rule clean words (V (Copy k e ws)) threads) → w ≡ at c (1 + length ws) → length ws < e → e ≤ 64 → After (Copy k e ws) copy true
    copy_step k e ws r is le fit =
        let lj : 1 + length ws < 65 = omega arith in
        plain (1 + length ws) (Copy k e ws) (copied_to k e (ws ++ get_or words w 0 ∷ [])) c copy true r is lj (inl refl) (quiet (eqb (length (ws ++ get_or words w 0 ∷ [])) e))
        (λ cl.
        let q = ready_here (Copy k e ws) r (λ s. cc) cl in
        let rd = q.reads in
        let size : e ≡ length q.block = rd.2 in
        let found : get_or words w 0 ≡ get_or q.block (length ws) 0 = sym (row_at words w c (1 + length ws) is lj) ∙ rd.0 (length ws) (omega arith) in
        let longer : length (ws ++ get_or words w 0 ∷ []) ≡ length ws + 1 = grind (arith, common_steps) in
        let both : ws ++ get_or words w 0 ∷ [] ≡ take (length ws + 1) q.block = ap (λ l. l ++ get_or words w 0 ∷ []) rd.4 ∙ take_snoc q.block (length ws) (get_or words w 0) (omega arith) found in
        let front : ws ++ get_or words w 0 ∷ [] ≡ take (length (ws ++ get_or words w 0 ∷ [])) q.block = both ∙ ap (λ z. take z q.block) (sym longer) in
        still (1 + length ws) (copied_to k e (ws ++ get_or words w 0 ∷ [])) copy (r.owners c) is lj
        (by_test q (ws ++ get_or words w 0 ∷ []) rd.1 size front (omega arith) (eqb (length (ws ++ get_or words w 0 ∷ [])) e) refl))
      where
        quiet : (b : Bool) → Replies (cond b (Whole (copied k e (ws ++ get_or words w 0 ∷ []))) (Copy k e (ws ++ get_or words w 0 ∷ [])))
        quiet true = tt
        quiet false = tt

        by_test : (q : AtReady (r.owners c) (Copy k e ws) (row words c)) (us : List ℕ) → k ≡ get_or q.block 2 0 → e ≡ length q.block → us ≡ take (length us) q.block → length us ≤ e → (b : Bool) → eqb (length us) e ≡ b
            → ChannelInvariant (r.owners c) (cond b (Whole (copied k e us)) (Copy k e us)) (row words c)
        by_test q us same size front l true t =
            let full : length us ≡ length q.block = was_true (length us) e t ∙ size in
            let is_block : us ≡ q.block = whole_take us q.block (length us) front full in
            let all : copied k e us ≡ whole q.block = (λ z. copied (same z) (size z) (is_block z)) in
            at_ready (r.owners c) (Whole (copied k e us)) (row words c) q.number q.block q.is q.state q.whole_block (q.reads.0, all)
        by_test q us same size front l false t =
            let short : length us ≢ e = was_false (length us) e t in
            at_ready (r.owners c) (Copy k e us) (row words c) q.number q.block q.is q.state q.whole_block (q.reads.0, same, size, omega arith, front)

    first_answer : (x : ℕ) (t : Copied) (r : Rule clean words (V (Whole t)) threads) → w ≡ at c 4 → x ≡ mark_of t → After (Whole t) (answer x) true
    first_answer x t r is mark =
        plain 4 (Whole t) (Reply t (x ∷ [])) c (answer x) true r is (omega arith) (inl refl) (omega arith, omega arith, mark)
        (λ cl.
        let q = ready_here (Whole t) r (λ s. cc) cl in
        subst (λ y. ChannelInvariant (r.owners c) y (put 4 x (row words c))) (sym (sees_here (U c (Reply t (x ∷ []))) c refl))
        (at_ready (r.owners c) (Reply t (x ∷ [])) (put 4 x (row words c)) q.number q.block q.is q.state q.whole_block (q.reads.1, omega arith, omega arith, stands_more [] x 4 (row words c) (λ z l. absurd (omega arith)), mark)))

    next_answer : (x : ℕ) (t : Copied) (a : List ℕ) (r : Rule clean words (V (Reply t a)) threads) → w ≡ at c (4 + length a) → length a < 12 → After (Reply t a) (answer x) true
    next_answer x t a r is la =
        let lj : 4 + length a < 65 = omega arith in
        let ne : 0 ≢ 4 + length a = omega arith in
        let old = r.fits_worker.replies in
        let pos : 0 < length a = old.0 in
        let longer : length (a ++ x ∷ []) ≡ length a + 1 = grind (arith, common_steps) in
        let front : get_or (a ++ x ∷ []) 0 0 ≡ get_or a 0 0 = grind (arith, common_steps) in
        plain (4 + length a) (Reply t a) (Reply t (a ++ x ∷ [])) c (answer x) true r is lj (inl refl) (omega arith, omega arith, front ∙ old.2)
        (λ cl.
        let q = ready_here (Reply t a) r (λ s. cc) cl in
        let rd = q.reads in
        subst (λ y. ChannelInvariant (r.owners c) y (put (4 + length a) x (row words c))) (sym (sees_here (U c (Reply t (a ++ x ∷ []))) c refl))
        (at_ready (r.owners c) (Reply t (a ++ x ∷ [])) (put (4 + length a) x (row words c)) q.number q.block q.is (put_else (4 + length a) x (row words c) 0 ne ∙ q.state) q.whole_block
        (rd.0, omega arith, omega arith, stands_more a x 4 (row words c) rd.3, front ∙ rd.4)))

    -- the call that is served at the acknowledgement
    module _ (t : Copied) (a : List ℕ) (r : Rule clean words (V (Reply t a)) threads) where
      abbrev served : List Served
      served = sv ++ serve c t a ∷ []

      abbrev W : Bool → WorkerView
      W b = worker_result (V (Reply t a)) acknowledge b (get_or words w 0)

      acked_agrees : (k : ℕ) (b : List ℕ) (p : ThreadPlace) → Agrees k p (sent k b) → Agrees k p (has_reply k b a)
      acked_agrees k b (Try x f) g = tt
      acked_agrees k b (Fill x ws) g = absurd (cc)
      acked_agrees k b (Wait x b') (inl g) = inr (a, cc)
      acked_agrees k b (Wait x b') (inr g) = let h = g.1 in absurd (cc)
      acked_agrees k b (Fetch x b' l) g = let h = g.1 in absurd (cc)

      -- a call of another number, or on another channel
      calls_stay : (k : ℕ) → is_of clean k (serve c t a) ≡ false → calls_of clean k served ≡ calls_of clean k sv
      calls_stay k e = calls_push clean k sv (serve c t a) ∙ ap (λ b. calls_of clean k sv ++ cond b (serve c t a ∷ []) []) e ∙ append-nil (calls_of clean k sv)

      calls_grow : (k : ℕ) → is_of clean k (serve c t a) ≡ true → calls_of clean k served ≡ calls_of clean k sv ++ serve c t a ∷ []
      calls_grow k e = calls_push clean k sv (serve c t a) ∙ ap (λ b. calls_of clean k sv ++ cond b (serve c t a ∷ []) []) e

      is_mine : (k : ℕ) → is_clean clean c ≡ true → mark_of t / 65536 ≡ k + 1 → is_of clean k (serve c t a) ≡ true
      is_mine k cl e = rw cl (eq-eqb (mark_of t / 65536) (k + 1) e)

      not_mine : (k q : ℕ) → is_clean clean c ≡ true → mark_of t / 65536 ≡ k + 1 → q ≢ k → is_of clean q (serve c t a) ≡ false
      not_mine k q cl e ne = let apart : mark_of t / 65536 ≢ q + 1 = (λ s. let p : k + 1 ≡ q + 1 = sym e ∙ s in ne (omega arith)) in rw cl (ne_eqb (mark_of t / 65536) (q + 1) apart)

      unclean_call : (q : ℕ) → is_clean clean c ≡ false → is_of clean q (serve c t a) ≡ false
      unclean_call q un = rw un refl

      replied_at : length a ≡ 12 → (z : ℕ) (x : Served) → get_elem? served z ≡ some x → IsReplyTo x.taken x.reply
      replied_at la z x e = ⊎_elim (λ (o : get_elem? sv z ≡ some x). r.fits_worker.replied z x o)
          (λ (o : (z ≡ length sv) × (serve c t a ≡ x)). subst (λ (y : Served). IsReplyTo y.taken y.reply) o.1 record { size = la; mark = r.fits_worker.replies.2 }) (at_snoc sv (serve c t a) x z e)

      borne_at : (is_clean clean c ≡ true → (k : ℕ) × (k < n) × (mark_of t / 65536 ≡ k + 1)) → (z : ℕ) (x : Served) → get_elem? served z ≡ some x → is_clean clean x.channel ≡ true → (k : ℕ) × (k < n) × (mark_of x.taken / 65536 ≡ k + 1)
      borne_at mine z x e cl = ⊎_elim (λ (o : get_elem? sv z ≡ some x). r.fits_worker.of_threads z x o cl)
          (λ (o : (z ≡ length sv) × (serve c t a ≡ x)). subst (λ (y : Served). is_clean clean y.channel ≡ true → (k : ℕ) × (k < n) × (mark_of y.taken / 65536 ≡ k + 1)) o.1 mine cl) (at_snoc sv (serve c t a) x z e)

      -- what was served last on another channel, and on this one
      last_else : (x : ℕ) (k : Owner) → x ≢ c → Last sv x k → Last served x k
      last_else x idle ne h = tt
      last_else x (filling k ws) ne h = tt
      last_else x (sent k b) ne h = tt
      last_else x (has_reply k b g) ne h = (h.0, filter-append (is_on x) sv (serve c t a ∷ []) ∙ ap (λ z. filter (is_on x) sv ++ cond z (serve c t a ∷ []) []) (ne_eqb c x (λ s. ne (sym s))) ∙ append-nil (filter (is_on x) sv) ∙ h.1)

      last_here : (k : ℕ) (b : List ℕ) → serve c t a ≡ as_served (call c b a) → Last served c (has_reply k b a)
      last_here k b same = (filter (is_on c) sv, filter-append (is_on c) sv (serve c t a ∷ []) ∙ ap (λ z. filter (is_on c) sv ++ cond z (serve c t a ∷ []) []) (eq-eqb c c refl) ∙ ap (λ z. filter (is_on c) sv ++ z ∷ []) same)

      -- on a channel that is not clean
      ack_unclean : w ≡ at c 0 → length a ≡ 12 → is_clean clean c ≡ false → (b : Bool) → After (Reply t a) acknowledge b
      ack_unclean is la un b =
          worker_move c 0 (V (Reply t a)) (W b) acknowledge b r r.owners lc is (omega arith) (λ x ne. refl)
          (λ x ne. sees_look (W b) x refl ∙ sym (sees_else (V (Reply t a)) x ne))
          (λ cl. absurd (off (sym un ∙ cl)))
          (λ x cl. last_else x (r.owners x) (λ s. off (sym un ∙ subst (λ y. is_clean clean y ≡ true) s cl)) (r.lasts x cl))
          record {
            its_clean = r.fits_worker.its_clean;
            owners_there = r.fits_worker.owners_there;
            no_strangers = λ k l. calls_stay k (unclean_call k un) ∙ r.fits_worker.no_strangers k l;
            of_threads = borne_at (λ cl. absurd (off (sym un ∙ cl)));
            replied = replied_at la;
            replies = tt;
          }
          (λ x u f. record { its_clean = f.its_clean; number = f.number; agrees = f.agrees; only = f.only; calls = calls_stay u.number (unclean_call u.number un) ∙ f.calls; all_abandoned = f.all_abandoned; handed_is_own = f.handed_is_own })

      ack_clean : w ≡ at c 0 → length a ≡ 12 → is_clean clean c ≡ true → (b : Bool) → met acknowledge (get_or words w 0) ≡ b → After (Reply t a) acknowledge b
      ack_clean is la cl false e =
          let q = ready_here (Reply t a) r (λ s. cc) cl in
          let three : get_or words w 0 ≡ 3 = sym (row_at words w c 0 is (omega arith)) ∙ q.state in
          absurd (was_false (get_or words w 0) 3 e three)
      ack_clean is la cl true e =
          let q = ready_here (Reply t a) r (λ s. cc) cl in
          let rd = q.reads in
          let k : Owner = has_reply q.number q.block a in
          let mark : mark_of t / 65536 ≡ q.number + 1 = ap (λ z. mark_of z / 65536) rd.0 ∙ q.whole_block.mark in
          let mine : owner_of (r.owners c) ≡ some q.number = ap owner_of q.is in
          let below : q.number < n = r.fits_worker.owners_there c q.number cl mine in
          worker_move c 0 (V (Reply t a)) (W true) acknowledge true r (upd r.owners c k) lc is (omega arith)
          (λ x ne. upd_else r.owners c k x ne)
          (λ x ne. sees_look (W true) x refl ∙ sym (sees_else (V (Reply t a)) x ne))
          (λ _. subst (λ y. ChannelInvariant y (sees c (W true)) (put 0 4 (row words c))) (sym (upd_here r.owners c k c refl))
          (refl, q.whole_block, sees_look (W true) c refl, record { size = la; mark = rd.4 ∙ ap mark_of rd.0 }, stands_else a 12 4 (row words c) 0 4 (omega arith) (subst (λ z. AreIn a z 4 (row words c)) la rd.3)))
          (λ x cx. last_at q x cx (ℕ_discrete x c))
          record {
            its_clean = r.fits_worker.its_clean;
            owners_there = λ x z cx o. owner_at q x z cx o (ℕ_discrete x c);
            no_strangers = λ z l. calls_stay z (not_mine q.number z cl mark (λ s. omega arith)) ∙ r.fits_worker.no_strangers z l;
            of_threads = borne_at (λ _. (q.number, below, mark));
            replied = replied_at la;
            replies = tt;
          }
          (λ x u f. thread_at q mark x u f (ℕ_discrete u.number q.number))
        where
          owner_at : (q : AtReady (r.owners c) (Reply t a) (row words c)) (x z : ℕ) → is_clean clean x ≡ true → owner_of (upd r.owners c (has_reply q.number q.block a) x) ≡ some z → Dec (x ≡ c) → z < n
          owner_at q x z cx o (yes s) = r.fits_worker.owners_there c z cl (ap owner_of q.is ∙ sym (ap owner_of (upd_here r.owners c (has_reply q.number q.block a) x s)) ∙ o)
          owner_at q x z cx o (no ne) = r.fits_worker.owners_there x z cx (sym (ap owner_of (upd_else r.owners c (has_reply q.number q.block a) x ne)) ∙ o)

          last_at : (q : AtReady (r.owners c) (Reply t a) (row words c)) (x : ℕ) → is_clean clean x ≡ true → Dec (x ≡ c) → Last served x (upd r.owners c (has_reply q.number q.block a) x)
          last_at q x cx (yes s) =
              subst (λ y. Last served y (upd r.owners c (has_reply q.number q.block a) y)) (sym s)
              (subst (Last served c) (sym (upd_here r.owners c (has_reply q.number q.block a) c refl)) (last_here q.number q.block (ap (λ z. serve c z a) q.reads.0)))
          last_at q x cx (no ne) = subst (Last served x) (sym (upd_else r.owners c (has_reply q.number q.block a) x ne)) (last_else x (r.owners x) ne (r.lasts x cx))

          thread_at : (q : AtReady (r.owners c) (Reply t a) (row words c)) → mark_of t / 65536 ≡ q.number + 1 → (x : ℕ) (u : ThreadView) → FitsThread clean r.owners sv x u → Dec (u.number ≡ q.number)
              → FitsThread clean (upd r.owners c (has_reply q.number q.block a)) served x u
          thread_at q mark x u f (no ne) =
              let k : Owner = has_reply q.number q.block a in
              let g = thread_else clean r.owners sv q.number c k (λ _. inr (ap owner_of q.is)) (λ _. inr refl) x u ne f in
              record { its_clean = g.its_clean; number = g.number; agrees = g.agrees; only = g.only; calls = calls_stay u.number (not_mine q.number u.number cl mark ne) ∙ g.calls; all_abandoned = g.all_abandoned; handed_is_own = g.handed_is_own }
          thread_at q mark x u f (yes s) =
              let k : Owner = has_reply q.number q.block a in
              let here : place u.place ≡ some c = f.only c cl (ap owner_of q.is ∙ ap some (sym s)) in
              let before : Agrees u.number u.place (sent u.number q.block) = subst (Agrees u.number u.place) (q.is ∙ ap (λ z. sent z q.block) (sym s)) (f.agrees c here cl) in
              let after : Agrees u.number u.place (has_reply q.number q.block a) = subst (λ z. Agrees u.number u.place (has_reply z q.block a)) s (acked_agrees u.number q.block u.place before) in
              let old_wait : waiting clean r.owners (some c) ≡ [] = ap (λ z. cond z (served_at c (r.owners c)) []) cl ∙ ap (served_at c) q.is in
              let new_wait : waiting clean (upd r.owners c k) (some c) ≡ call c q.block a ∷ [] = ap (λ z. cond z (served_at c (upd r.owners c k c)) []) cl ∙ ap (served_at c) (upd_here r.owners c k c refl) in
              let same : serve c t a ≡ as_served (call c q.block a) = ap (λ z. serve c z a) q.reads.0 in
              record {
                its_clean = f.its_clean;
                number = f.number;
                agrees = λ y p cy. subst (λ z. Agrees u.number u.place (upd r.owners c k z)) (some-injective c y (sym here ∙ p)) (subst (Agrees u.number u.place) (sym (upd_here r.owners c k c refl)) after);
                only = λ y cy o. by_place q here f y cy o (ℕ_discrete y c);
                calls =
                    calls_grow u.number (is_mine u.number cl (mark ∙ ap (λ z. z + 1) (sym s)))
                    ∙ ap (λ l. l ++ serve c t a ∷ []) (f.calls ∙ ap (λ z. map as_served (u.ended_calls ++ waiting clean r.owners z)) here ∙ ap (λ l. map as_served (u.ended_calls ++ l)) old_wait ∙ ap (map as_served) (append-nil u.ended_calls))
                    ∙ ap (λ (z : Served). map as_served u.ended_calls ++ z ∷ []) same
                    ∙ sym (map_snoc as_served u.ended_calls (call c q.block a))
                    ∙ ap (λ l. map as_served (u.ended_calls ++ l)) (sym new_wait)
                    ∙ ap (λ z. map as_served (u.ended_calls ++ waiting clean (upd r.owners c k) z)) (sym here);
                all_abandoned = f.all_abandoned;
                handed_is_own = f.handed_is_own;
              }
            where
              by_place : (q : AtReady (r.owners c) (Reply t a) (row words c)) → place u.place ≡ some c → FitsThread clean r.owners sv x u → (y : ℕ) → is_clean clean y ≡ true → owner_of (upd r.owners c (has_reply q.number q.block a) y) ≡ some u.number → Dec (y ≡ c) → place u.place ≡ some y
              by_place q here f y cy o (yes p) = here ∙ ap some (sym p)
              by_place q here f y cy o (no ne) = f.only y cy (sym (ap owner_of (upd_else r.owners c (has_reply q.number q.block a) y ne)) ∙ o)

      ack_step : w ≡ at c 0 → length a ≡ 12 → (b : Bool) → met acknowledge (get_or words w 0) ≡ b → After (Reply t a) acknowledge b
      ack_step is la b e = by_clean (is_clean clean c) refl
        where
          by_clean : (y : Bool) → is_clean clean c ≡ y → After (Reply t a) acknowledge b
          by_clean true cl = ack_clean is la cl b e
          by_clean false un = ack_unclean is la un b

    -- by place and kind of step
    pub worker_steps : (p : WorkerPlace) (d : Deed) (r : Rule clean words (V p) threads) → WorkerMay (V p) p w d → After p d (met d (get_or words w 0))
    worker_steps Look look r may = look_step r may.1 (met look (get_or words w 0)) refl
    worker_steps Count load_count r may = count_step r may.1
    worker_steps (End k) load_end r may = end_step k r may.1 may.2
    worker_steps (Copy k e ws) copy r may = copy_step k e ws r may.1 may.2 may.3
    worker_steps (Whole t) (answer x) r may = first_answer x t r may.1 may.2
    worker_steps (Reply t a) (answer x) r may = next_answer x t a r may.1 may.2
    worker_steps (Reply t a) acknowledge r may = ack_step t a r may.1 may.2 (met acknowledge (get_or words w 0)) refl
    worker_steps p d r may = absurd may
