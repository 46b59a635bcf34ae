-- The worker's view goes on as the worker does.
use Rattle.std.proofs.Common.{◌≡◌, refl, sym, ap, ◌∙◌, subst, ℕ, zero, suc, ◌+◌, ◌%◌, ◌<◌, ◌≤◌, Bool, true, false, cond, eqb, ltb, List, [], ◌∷◌, ◌++◌, length, get_or, take, Option, Some, arith}
use Rattle.std.proofs.Math.Nat.{mod-eq_of_lt, mod_self}
use Rattle.std.proofs.lemmas.Bool.Decides.{nat_tests}
use Rattle.sb_block.specs.Copies.{Copied, copied, is_end}
use Rattle.sb_block.specs.Packing.{offset_of}
use Rattle.sb_actor.specs.Following.{Tells, Follows, WorkerFollows}
use Rattle.sb_actor.specs.Moves.{at, next, Deed, met, worker_place, worker_channel, worker_view, WorkerMay, look, load_count, load_end, copy, answer, acknowledge}
use Rattle.sb_actor.specs.Ranges.{IsSoundStage}
use Rattle.sb_actor.specs.Ties.{worker_place_of, worker_deed, HoldsWorker}
use Rattle.sb_actor.specs.WorkerStages.{WorkerStage, WorkerAt}
use Rattle.sb_actor.specs.WorkerStages as stage
use Rattle.sb_actor.specs.WorkerTable.{worker_plan, after_look, after_count, after_end, after_copy, after_reply, at_stage, look_next}
use Rattle.sb_actor.specs.Observations.{Observation}
use Rattle.sb_actor.specs.Views.{WorkerPlace, Look, Count, End, Copy, Whole, Reply, WorkerView}
use Rattle.sb_actor.proofs.Lists.{take_snoc}

pub some_same : (a b : Deed) → ◌≡◌ {A = Option Deed} (Some a) (Some b) → a ≡ b
some_same a b e = cc

-- the next channel, by a test and by a remainder
next_is : (c k : ℕ) → c < k → cond (ltb (c + 1) k) (c + 1) 0 ≡ (c + 1) % k
next_is c k l = by_test (ltb (c + 1) k) refl
  where
    by_test : (b : Bool) → ltb (c + 1) k ≡ b → cond b (c + 1) 0 ≡ (c + 1) % k
    by_test true e = let below : c + 1 < k = grind (arith, nat_tests) in sym (mod-eq_of_lt below)
    by_test false e = let same : c + 1 ≡ k = grind (arith, nat_tests) in sym (ap (λ z. z % k) same ∙ mod_self k)

take_front : (r : List ℕ) → 0 < length r → take 1 r ≡ get_or r 0 0 ∷ []
take_front [] l = absurd (omega arith)
take_front (x ∷ r) l = refl

pub take_whole : (r : List ℕ) (n : ℕ) → length r ≡ n → take n r ≡ r
take_whole [] zero e = refl
take_whole [] (suc n) e = refl
take_whole (x ∷ r) zero e = absurd (omega arith)
take_whole (x ∷ r) (suc n) e = ap (λ l. x ∷ l) (take_whole r n (omega arith))

pub take_length : (r : List ℕ) (n : ℕ) → n ≤ length r → length (take n r) ≡ n
take_length r zero l = refl
take_length [] (suc n) l = absurd (omega arith)
take_length (x ∷ r) (suc n) l = ap suc (take_length r n (omega arith))

-- a worker at a stage, and a view that shows it
module _ (v : WorkerView) (t k ch : ℕ) (l : length v.clean ≡ k) (c : v.channel ≡ ch) (i : ch < k) (n : ℕ) (seen : Observation) where
  abbrev W : WorkerStage → WorkerAt
  W s = record { target = t; channels = k; channel = ch; stage = s }

  inside : v.channel < length v.clean
  inside = omega arith

  here : (j : ℕ) → at ch j ≡ at v.channel j
  here j = ap (λ z. at z j) (sym c)

  goes_on : next v.clean v.channel ≡ (ch + 1) % k
  goes_on = ap (λ (z : ℕ × ℕ). cond (ltb (z.0 + 1) z.1) (z.0 + 1) 0) (λ q. (c q, l q)) ∙ next_is ch k i

  -- the view after a step that leaves the channel
  stays : (d : Deed) (p : WorkerPlace) (s : WorkerStage) → worker_channel v.clean v.channel d (met d n) ≡ v.channel → v.place ≡ p → worker_place p d (met d n) n ≡ worker_place_of s
      → HoldsWorker (worker_view v d n) (W s)
  stays d p s same e f = record { channels = l; channel = same ∙ c; place = ap (λ z. worker_place z d (met d n) n) e ∙ f }

  -- and after one that goes to the next
  moves : (d : Deed) (p : WorkerPlace) → worker_channel v.clean v.channel d (met d n) ≡ next v.clean v.channel → v.place ≡ p → worker_place p d (met d n) n ≡ Look
      → HoldsWorker (worker_view v d n) (look_next (W stage.Look))
  moves d p same e f = record { channels = l; channel = same ∙ goes_on; place = ap (λ z. worker_place z d (met d n) n) e ∙ f }

  looks : v.place ≡ Look → HoldsWorker (worker_view v look n) (after_look (W stage.Look) n)
  looks e = by_met (eqb n 3) refl
    where
      by_met : (b : Bool) → eqb n 3 ≡ b → HoldsWorker (worker_view v look n) (cond b (at_stage (W stage.Look) stage.Count) (look_next (W stage.Look)))
      by_met true q = stays look Look stage.Count (ap (λ b. cond b v.channel (next v.clean v.channel)) q) e (ap (λ b. cond b Count Look) q)
      by_met false q = moves look Look (ap (λ b. cond b v.channel (next v.clean v.channel)) q) e (ap (λ b. cond b Count Look) q)

  counts : worker_place Count load_count true n ≡ worker_place_of (after_count n)
  counts = by_test (ltb 9 n)
    where
      by_test : (b : Bool) → cond b (Whole (copied n 0 [])) (End n) ≡ worker_place_of (cond b (stage.Take (copied n 0 [])) (stage.End n))
      by_test true = refl
      by_test false = refl

  ends : (x : ℕ) → worker_place (End x) load_end true n ≡ worker_place_of (after_end x (offset_of n))
  ends x = by_test (is_end x (offset_of n))
    where
      by_test : (b : Bool) → cond b (Copy x (offset_of n) []) (Whole (copied x (offset_of n) [])) ≡ worker_place_of (cond b (stage.Copy x (offset_of n) []) (stage.Take (copied x (offset_of n) [])))
      by_test true = refl
      by_test false = refl

  copies : (x e : ℕ) (ws : List ℕ) → worker_place (Copy x e ws) copy true n ≡ worker_place_of (after_copy x e (ws ++ n ∷ []))
  copies x e ws = by_test (eqb (length (ws ++ n ∷ [])) e)
    where
      by_test : (b : Bool) → cond b (Whole (copied x e (ws ++ n ∷ []))) (Copy x e (ws ++ n ∷ [])) ≡ worker_place_of (cond b (stage.Take (copied x e (ws ++ n ∷ []))) (stage.Copy x e (ws ++ n ∷ [])))
      by_test true = refl
      by_test false = refl

  -- the first word of a reply, and the others
  first_stored : (x : Copied) (r : List ℕ) → length r ≡ 12 → worker_place (Whole x) (answer (get_or r 0 0)) true n ≡ worker_place_of (after_reply x r 0)
  first_stored x r s = ap (λ z. Reply x z) (sym (take_front r (omega arith)))

  next_stored : (x : Copied) (r : List ℕ) (j : ℕ) → length r ≡ 12 → suc j < 12 → worker_place (Reply x (take (suc j) r)) (answer (get_or r (suc j) 0)) true n ≡ worker_place_of (after_reply x r (suc j))
  next_stored x r j s lj =
      ap (λ z. Reply x z) (take_snoc r (suc j) (get_or r (suc j) 0) (omega arith) refl) ∙ by_test (eqb (suc j) 11) refl
    where
      not_zero : eqb (suc j + 1) 0 ≡ false
      not_zero = grind (arith, nat_tests)

      by_test : (b : Bool) → eqb (suc j) 11 ≡ b → Reply x (take (suc j + 1) r) ≡ worker_place_of (cond b (stage.Ack x r) (stage.Reply x r (suc j + 1)))
      by_test true q = let last : suc j + 1 ≡ 12 = grind (arith, nat_tests) in ap (λ z. Reply x z) (ap (λ z. take z r) last ∙ take_whole r 12 s)
      by_test false q = sym (ap (λ b. cond b (Whole x) (Reply x (take (suc j + 1) r))) not_zero)

  replies : (x : Copied) (r : List ℕ) (j : ℕ) → worker_place_of (stage.Reply x r (suc j)) ≡ Reply x (take (suc j) r)
  replies x r j = ap (λ b. cond b (Whole x) (Reply x (take (suc j) r))) not_zero
    where
      not_zero : eqb (suc j) 0 ≡ false
      not_zero = grind (arith, nat_tests)

  follows : (s : WorkerStage) (d : Deed) → v.place ≡ worker_place_of s → IsSoundStage s → worker_deed s ≡ Some d → Tells (worker_plan (W s)) n seen → Follows v (W s) d n seen
  follows stage.Look d e h q tell =
      subst (λ z. Follows v (W stage.Look) z n seen) (some_same look d q)
      record {
        may = subst (λ p. WorkerMay v p (at ch 0) look) (sym e) (inside, here 0);
        writes = refl;
        holds = subst (λ z. HoldsWorker (worker_view v look n) (after_look (W stage.Look) z)) (sym tell) (looks e);
      }
  follows stage.Count d e h q tell =
      subst (λ z. Follows v (W stage.Count) z n seen) (some_same load_count d q)
      record {
        may = subst (λ p. WorkerMay v p (at ch 3) load_count) (sym e) (inside, here 3);
        writes = refl;
        holds = subst (λ z. HoldsWorker (worker_view v load_count n) (at_stage (W stage.Count) (after_count z))) (sym tell) (stays load_count Count (after_count n) refl e counts);
      }
  follows (stage.End x) d e h q tell =
      let word : 1 + (15 + x) ≡ 16 + x = omega arith in
      subst (λ z. Follows v (W (stage.End x)) z n seen) (some_same load_end d q)
      record {
        may = subst (λ p. WorkerMay v p (at ch (1 + (15 + x))) load_end) (sym e) (inside, here (1 + (15 + x)) ∙ ap (at v.channel) word, h);
        writes = refl;
        holds = subst (λ z. HoldsWorker (worker_view v load_end n) (at_stage (W (stage.End x)) (after_end x (offset_of z)))) (sym tell) (stays load_end (End x) (after_end x (offset_of n)) refl e (ends x));
      }
  follows (stage.Copy x y ws) d e h q tell =
      subst (λ z. Follows v (W (stage.Copy x y ws)) z n seen) (some_same copy d q)
      record {
        may = subst (λ p. WorkerMay v p (at ch (1 + length ws)) copy) (sym e) (inside, here (1 + length ws), h.3, h.2);
        writes = refl;
        holds = subst (λ z. HoldsWorker (worker_view v copy n) (at_stage (W (stage.Copy x y ws)) (after_copy x y (ws ++ z ∷ [])))) (sym tell) (stays copy (Copy x y ws) (after_copy x y (ws ++ n ∷ [])) refl e (copies x y ws));
      }
  follows (stage.Reply x r zero) d e h q tell =
      subst (λ z. Follows v (W (stage.Reply x r 0)) z n seen) (some_same (answer (get_or r 0 0)) d q)
      record {
        may = subst (λ p. WorkerMay v p (at ch 4) (answer (get_or r 0 0))) (sym e) (inside, here 4, h.1.mark);
        writes = refl;
        holds = stays (answer (get_or r 0 0)) (Whole x) (after_reply x r 0) refl e (first_stored x r h.1.size);
      }
  follows (stage.Reply x r (suc j)) d e h q tell =
      let size = h.1.size in
      let f : v.place ≡ Reply x (take (suc j) r) = e ∙ replies x r j in
      let long : length (take (suc j) r) ≡ suc j = take_length r (suc j) (omega arith) in
      let word : 1 + (3 + suc j) ≡ 4 + length (take (suc j) r) = omega arith in
      subst (λ z. Follows v (W (stage.Reply x r (suc j))) z n seen) (some_same (answer (get_or r (suc j) 0)) d q)
      record {
        may = subst (λ p. WorkerMay v p (at ch (1 + (3 + suc j))) (answer (get_or r (suc j) 0))) (sym f) (inside, here (1 + (3 + suc j)) ∙ ap (at v.channel) word, omega arith);
        writes = refl;
        holds = stays (answer (get_or r (suc j) 0)) (Reply x (take (suc j) r)) (after_reply x r (suc j)) refl f (next_stored x r j size h.0);
      }
  follows (stage.Ack x r) d e h q tell =
      subst (λ z. Follows v (W (stage.Ack x r)) z n seen) (some_same acknowledge d q)
      record {
        may = subst (λ p. WorkerMay v p (at ch 0) acknowledge) (sym e) (inside, here 0, h.size);
        writes = refl;
        holds = moves acknowledge (Reply x r) refl e refl;
      }
  follows _ d e h q tell = absurd (cc)

pub worker_follows : WorkerFollows
worker_follows v w d n seen h i s q tell = follows v w.target w.channels w.channel h.channels h.channel i n seen w.stage d h.place s q tell
