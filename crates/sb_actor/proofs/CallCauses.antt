-- A call ends for the cause that its steps found.
use Rattle.std.proofs.Common.{◌≡◌, ◌⊎◌, inl, inr, ◌∙◌, refl, sym, subst, ap, ℕ, ◌+◌, ◌<◌, Bool, true, false, not, cond, eqb, ◌&&◌, List, [], ◌∷◌, ◌++◌, length, get_or, None, Some, arith, append_assoc, eq-eqb}
use Rattle.std.proofs.lemmas.Bool.{and_from, eqb-true, not_from_false}
use Rattle.std.proofs.lemmas.Bool.Decides.{nat_tests}
use Rattle.std.proofs.lemmas.List.{append-nil}
use Rattle.std.specs.List.{list_all}
use Rattle.sb_actor.specs.Causes.{Ends, BeginsCall, CauseOf, CallsEndForCause, Tried, NoneFree, Filled, Waited, Fetched, is_taken, is_abandoned, is_waiting, is_round}
use Rattle.sb_actor.specs.Places.{mark_at}
use Rattle.sb_actor.specs.ThreadStages.{ThreadStage, ThreadAt}
use Rattle.sb_actor.specs.ThreadStages as stage
use Rattle.sb_actor.specs.ThreadTable.{ThreadNext, thread_after, goes_on, ends, after_try, after_fill, after_send, after_wait, after_fetch, reply_by, has_clean}
use Rattle.sb_actor.specs.Observations.{Value}
use Rattle.sb_actor.proofs.CauseLists.{all_snoc, all_more, length_snoc, snoc_behind, snoc_part, snoc_round}
use Rattle.sb_block.specs.Replies.{read_reply}
use Rattle.sb_statements.specs.declared.results.CallResult.{CallResult}
use Rattle.sb_statements.specs.declared.results.CallResult.TheVariants as result
use Rattle.sb_statements.specs.declared.results.StmtResult.{StmtResult}
use Rattle.sb_statements.specs.declared.results.StmtResult.TheVariants as ended
use Rattle.sb_statements.specs.declared.scripts.Script.{Script}

-- Where a thread is in a call, by the values that its steps found since the call began. It tries a channel: the rounds that it counts, if the target
-- has no clean channel, and whether each try of this round found the channel abandoned
pub record Trying (clean : List Bool) (patience c rounds : ℕ) (all_abandoned : Bool) (found : List ℕ) : Type 0 where
  pub tried : Tried clean patience c found
  pub counted : has_clean clean ≡ false → rounds ≡ length tried.rounds
  pub fives_is : all_abandoned ≡ list_all is_abandoned tried.part

-- it waits: if the channel is not clean, the loads that it counts
pub record Waiting (clean : List Bool) (patience size c loads : ℕ) (found : List ℕ) : Type 0 where
  pub values : List ℕ
  pub waited : Waited clean patience size c values found
  pub counted : get_or clean c true ≡ false → (loads ≡ length values) × (loads < patience)

abbrev pub AreIn : ThreadAt → List ℕ → ThreadStage → Type 0
AreIn x found (stage.Try c rounds all_abandoned) = Trying x.clean x.patience c rounds all_abandoned found
AreIn x found (stage.Fill c i) = Filled x.clean x.patience c i found × (i < length x.block)
AreIn x found (stage.Send c) = Filled x.clean x.patience c (length x.block) found
AreIn x found (stage.Wait c loads) = Waiting x.clean x.patience (length x.block) c loads found
AreIn x found (stage.Fetch c words) = Fetched x.clean x.patience (length x.block) c words found
AreIn x found (stage.Free c words) = Fetched x.clean x.patience (length x.block) c words found × (length words ≡ 12)
AreIn x found (stage.Abandon c) = (values : List ℕ) × Waited x.clean x.patience (length x.block) c values found × (get_or x.clean c true ≡ false) × (length values ≡ x.patience)
AreIn x found _ = ⊥

abbrev pub Cause : ThreadAt → List ℕ → ℕ → CallResult → Type 0
Cause x found last q = CauseOf x.clean x.patience (length x.block) (mark_at x.thread x.place) found last q

module _ (script : Script) (x : ThreadAt) where
  -- the thread in a stage
  abbrev at : ThreadStage → ThreadAt
  at s = record x { stage = s }

  -- what a step that found n leads to: the thread goes on to such a stage, or the call ends for its cause
  abbrev Goes : List ℕ → ℕ → ThreadNext → Type 0
  Goes found n next = (s : ThreadStage) × (next ≡ goes_on x s) × AreIn x (found ++ n ∷ []) s

  abbrev Stops : List ℕ → ℕ → ThreadNext → Type 0
  Stops found n next = (q : CallResult) × (next.ended ≡ Some (ended.Call q)) × Cause x found n q

  abbrev Comes : List ℕ → ℕ → ThreadNext → Type 0
  Comes found n next = Goes found n next ⊎ Stops found n next

  -- a try
  module _ (found : List ℕ) (c rounds n : ℕ) (all_abandoned : Bool) (h : Trying x.clean x.patience c rounds all_abandoned found) where
    abbrev part : List ℕ
    part = h.tried.part ++ n ∷ []

    fives_next : (all_abandoned && eqb n 5) ≡ list_all is_abandoned part
    fives_next = ap (λ (b : Bool). b && eqb n 5) h.fives_is ∙ sym (all_snoc is_abandoned h.tried.part n)

    -- the channel was taken, and another one follows
    tried_more : is_taken n ≡ true → c + 1 < length x.clean → Trying x.clean x.patience (c + 1) rounds (all_abandoned && eqb n 5) (found ++ n ∷ [])
    tried_more e l = record {
      tried = record {
        rounds = h.tried.rounds;
        part = part;
        is = snoc_part found h.tried.rounds h.tried.part n h.tried.is;
        whole = h.tried.whole;
        taken = all_more is_taken h.tried.part n h.tried.taken e;
        at = length_snoc h.tried.part n ∙ ap (λ (z : ℕ). z + 1) h.tried.at;
        there = l;
        in_time = h.tried.in_time;
      };
      counted = h.counted;
      fives_is = fives_next;
    }

    -- or a round is whole
    round_is : is_taken n ≡ true → c + 1 ≡ length x.clean → list_all is_abandoned part ≡ false → is_round (length x.clean) part ≡ true
    round_is e l f =
        let size = eq-eqb (length part) (length x.clean) (length_snoc h.tried.part n ∙ (ap (λ (z : ℕ). z + 1) h.tried.at ∙ l)) in
        and_from (eqb (length part) (length x.clean)) (list_all is_taken part && not (list_all is_abandoned part)) size
        (and_from (list_all is_taken part) (not (list_all is_abandoned part)) (all_more is_taken h.tried.part n h.tried.taken e) (not_from_false (list_all is_abandoned part) f))

    round_more : is_taken n ≡ true → c + 1 ≡ length x.clean → list_all is_abandoned part ≡ false → (counted : ℕ) → (has_clean x.clean ≡ false → counted ≡ rounds + 1)
        → (has_clean x.clean ≡ false → rounds + 1 < x.patience) → Trying x.clean x.patience 0 counted true (found ++ n ∷ [])
    round_more e l f counted is few = record {
      tried = record {
        rounds = h.tried.rounds ++ part ∷ [];
        part = [];
        is = snoc_round found h.tried.rounds h.tried.part n h.tried.is;
        whole = all_more (is_round (length x.clean)) h.tried.rounds part h.tried.whole (round_is e l f);
        taken = refl;
        at = refl;
        there = omega (arith, l);
        in_time = λ g. let s = length_snoc h.tried.rounds part in let t = h.counted g in let u = few g in omega (arith, s, t, u);
      };
      counted = λ g. let s = length_snoc h.tried.rounds part in let t = h.counted g in let u = is g in omega (arith, s, t, u);
      fives_is = refl;
    }

    none_free : is_taken n ≡ true → c + 1 ≡ length x.clean → (list_all is_abandoned part ≡ true) ⊎ ((has_clean x.clean ≡ false) × (length h.tried.rounds + 1 ≡ x.patience))
        → NoneFree x.clean x.patience found n
    none_free e l why = record { channel = c; tried = h.tried; end = l; taken = e; why = why }

    abbrev whole_round : Bool → Bool → Bool → ThreadNext
    whole_round all any last =
        cond all (ends script (at (stage.Try c rounds all_abandoned)) (ended.Call result.NoChannel))
        (cond any (goes_on x (stage.Try 0 rounds true))
        (cond last (ends script (at (stage.Try c rounds all_abandoned)) (ended.Call result.NoChannel)) (goes_on x (stage.Try 0 (rounds + 1) true))))

    by_round : is_taken n ≡ true → c + 1 ≡ length x.clean → (all any last : Bool) → list_all is_abandoned part ≡ all → has_clean x.clean ≡ any
        → eqb (rounds + 1) x.patience ≡ last → Comes found n (whole_round all any last)
    by_round e l true any last f g k = inr (result.NoChannel, refl, none_free e l (inl f))
    by_round e l false true last f g k = inl (stage.Try 0 rounds true, refl, round_more e l f rounds (λ b. absurd (cc)) (λ b. absurd (cc)))
    by_round e l false false true f g k =
        let t = h.counted g in
        let u = eqb-true (rounds + 1) x.patience k in
        inr (result.NoChannel, refl, none_free e l (inr (g, omega (arith, t, u))))
    by_round e l false false false f g k =
        let t = h.counted g in
        let u = h.tried.in_time g in
        let few : rounds + 1 < x.patience = grind (arith, nat_tests, k, t, u) in
        inl (stage.Try 0 (rounds + 1) true, refl, round_more e l f (rounds + 1) (λ b. refl) (λ b. few))

    abbrev tried_by : Bool → Bool → Bool → ThreadNext
    tried_by found_free last all =
        cond found_free (goes_on x (stage.Fill c 0))
        (cond last (whole_round all (has_clean x.clean) (eqb (rounds + 1) x.patience)) (goes_on x (stage.Try (c + 1) rounds all)))

    filling : n ≡ 1 → Filled x.clean x.patience c 0 (found ++ n ∷ [])
    filling e = record { tries = found; fills = []; tried = h.tried; is = ap (λ (m : ℕ). found ++ m ∷ []) e; many = refl }

    by_try : 0 < length x.block → (found_free last : Bool) → eqb n 1 ≡ found_free → eqb (c + 1) (length x.clean) ≡ last → Comes found n (tried_by found_free last (list_all is_abandoned part))
    by_try some true last e f = inl (stage.Fill c 0, refl, (filling (eqb-true n 1 e), some))
    by_try some false true e f =
        by_round (not_from_false (eqb n 1) e) (eqb-true (c + 1) (length x.clean) f) (list_all is_abandoned part) (has_clean x.clean) (eqb (rounds + 1) x.patience) refl refl refl
    by_try some false false e f =
        let there = h.tried.there in
        let few : c + 1 < length x.clean = grind (arith, nat_tests, f, there) in
        inl (
          stage.Try (c + 1) rounds (list_all is_abandoned part),
          refl,
          subst (λ (b : Bool). Trying x.clean x.patience (c + 1) rounds b (found ++ n ∷ [])) fives_next (tried_more (not_from_false (eqb n 1) e) few),
        )

    tried_step : 0 < length x.block → Comes found n (after_try script (at (stage.Try c rounds all_abandoned)) c rounds all_abandoned n)
    tried_step some =
        subst (λ (b : Bool). Comes found n (tried_by (eqb n 1) (eqb (c + 1) (length x.clean)) b)) (sym fives_next)
        (by_try some (eqb n 1) (eqb (c + 1) (length x.clean)) refl refl)

  -- a store into the block
  filled_step : (found : List ℕ) (c i n : ℕ) → Filled x.clean x.patience c i found → i < length x.block → Comes found n (goes_on x (after_fill x c i))
  filled_step found c i n h l = inl (after_fill x c i, refl, by_test (eqb (i + 1) (length x.block)) refl)
    where
      more : (k : ℕ) → k ≡ i + 1 → Filled x.clean x.patience c k (found ++ n ∷ [])
      more k e = record {
        tries = h.tries;
        fills = h.fills ++ n ∷ [];
        tried = h.tried;
        is = snoc_behind found h.tries 1 h.fills n h.is;
        many = let s = length_snoc h.fills n in let t = h.many in omega (arith, s, t, e);
      }

      by_test : (b : Bool) → eqb (i + 1) (length x.block) ≡ b → AreIn x (found ++ n ∷ []) (cond b (stage.Send c) (stage.Fill c (i + 1)))
      by_test true e = more (length x.block) (sym (eqb-true (i + 1) (length x.block) e))
      by_test false e = (more (i + 1) refl, grind (arith, nat_tests, e, l))

  -- the exchange that hands the block over
  sent_step : 0 < x.patience → (found : List ℕ) (c n : ℕ) → Filled x.clean x.patience c (length x.block) found → Comes found n (after_send script (at (stage.Send c)) c n)
  sent_step some found c n h = by_test (eqb n 2) refl
    where
      by_test : (b : Bool) → eqb n 2 ≡ b → Comes found n (cond b (goes_on x (stage.Wait c 0)) (ends script (at (stage.Send c)) (ended.Call (result.SendLost c n))))
      by_test true e = inl (
        stage.Wait c 0,
        refl,
        record {
          values = [];
          waited = record { before = found; filled = h; is = ap (λ (m : ℕ). found ++ m ∷ []) (eqb-true n 2 e); none = refl };
          counted = λ g. (refl, some);
        },
      )
      by_test false e = inr (result.SendLost c n, refl, (h, refl, (λ k. let t = eq-eqb n 2 k in absurd (cc))))

  -- a load of the state
  waited_step : (found : List ℕ) (c loads n : ℕ) → Waiting x.clean x.patience (length x.block) c loads found → Comes found n (goes_on x (after_wait x c loads n))
  waited_step found c loads n h = inl (after_wait x c loads n, refl, by_tests (eqb n 4) (get_or x.clean c true) (eqb (loads + 1) x.patience) refl refl refl)
    where
      more : eqb n 4 ≡ false → Waited x.clean x.patience (length x.block) c (h.values ++ n ∷ []) (found ++ n ∷ [])
      more e = record {
        before = h.waited.before;
        filled = h.waited.filled;
        is = snoc_behind found h.waited.before 2 h.values n h.waited.is;
        none = all_more is_waiting h.values n h.waited.none (not_from_false (eqb n 4) e);
      }

      by_tests : (a b d : Bool) → eqb n 4 ≡ a → get_or x.clean c true ≡ b → eqb (loads + 1) x.patience ≡ d
          → AreIn x (found ++ n ∷ []) (cond a (stage.Fetch c []) (cond b (stage.Wait c loads) (cond d (stage.Abandon c) (stage.Wait c (loads + 1)))))
      by_tests true b d e f g = record {
        before = found;
        loads = h.values;
        waited = h.waited;
        is = ap (λ (m : ℕ). found ++ m ∷ []) (eqb-true n 4 e);
        in_time = λ k. let t = h.counted k in let is = t.0 in let few = t.1 in omega (arith, is, few);
      }
      by_tests false true d e f g = record { values = h.values ++ n ∷ []; waited = more e; counted = λ k. absurd (cc) }
      by_tests false false true e f g =
          let s = length_snoc h.values n in
          let t = (h.counted f).0 in
          let u = eqb-true (loads + 1) x.patience g in
          (h.values ++ n ∷ [], more e, f, omega (arith, s, t, u))
      by_tests false false false e f g = record {
        values = h.values ++ n ∷ [];
        waited = more e;
        counted = λ k.
            let s = length_snoc h.values n in
            let t = (h.counted f).0 in
            let u = (h.counted f).1 in
            (omega (arith, s, t), grind (arith, nat_tests, g, u));
      }

  -- a load of the reply
  fetched_step : (found : List ℕ) (c n : ℕ) (words : List ℕ) → Fetched x.clean x.patience (length x.block) c words found
      → Comes found n (goes_on x (after_fetch c (words ++ n ∷ [])))
  fetched_step found c n words h = inl (after_fetch c (words ++ n ∷ []), refl, by_test (eqb (length (words ++ n ∷ [])) 12) refl)
    where
      more : Fetched x.clean x.patience (length x.block) c (words ++ n ∷ []) (found ++ n ∷ [])
      more = record { before = h.before; loads = h.loads; waited = h.waited; is = snoc_behind found h.before 4 words n h.is; in_time = h.in_time }

      by_test : (b : Bool) → eqb (length (words ++ n ∷ [])) 12 ≡ b → AreIn x (found ++ n ∷ []) (cond b (stage.Free c (words ++ n ∷ [])) (stage.Fetch c (words ++ n ∷ [])))
      by_test true e = (more, eqb-true (length (words ++ n ∷ [])) 12 e)
      by_test false e = more

  -- the store that frees the channel
  freed_step : (found : List ℕ) (c n : ℕ) (words : List ℕ) → Fetched x.clean x.patience (length x.block) c words found → length words ≡ 12
      → Stops found n (ends script (at (stage.Free c words)) (ended.Call (reply_by c (mark_at x.thread x.place) (read_reply words))))
  freed_step found c n words h l = (reply_by c (mark_at x.thread x.place) (read_reply words), refl, by_test (eqb (read_reply words).mark (mark_at x.thread x.place)) refl)
    where
      by_test : (b : Bool) → eqb (read_reply words).mark (mark_at x.thread x.place) ≡ b
          → Cause x found n (cond b (result.Reply c (read_reply words)) (result.Foreign c (read_reply words).mark))
      by_test true e = (words, h, l, refl, eqb-true (read_reply words).mark (mark_at x.thread x.place) e)
      by_test false e = (words, h, l, refl, (λ k. let t = eq-eqb (read_reply words).mark (mark_at x.thread x.place) k in absurd (cc)))

  -- each step
  each_step : 0 < length x.block → 0 < x.patience → (s : ThreadStage) (found : List ℕ) (n : ℕ) → AreIn x found s → Comes found n (thread_after script (at s) (Value n))
  each_step some patient (stage.Try c rounds all_abandoned) found n h = tried_step found c rounds n all_abandoned h some
  each_step some patient (stage.Fill c i) found n h = filled_step found c i n h.0 h.1
  each_step some patient (stage.Send c) found n h = sent_step patient found c n h
  each_step some patient (stage.Wait c loads) found n h = waited_step found c loads n h
  each_step some patient (stage.Fetch c words) found n h = fetched_step found c n words h
  each_step some patient (stage.Free c words) found n h = inr (freed_step found c n words h.0 h.1)
  each_step some patient (stage.Abandon c) found n h = inr (result.TimedOut c, refl, h)
  each_step some patient _ found n h = absurd h

  -- all steps, from where the thread is
  abbrev Caused : List ℕ → ℕ → StmtResult → Type 0
  Caused found last r = (q : CallResult) × (r ≡ ended.Call q) × Cause x found last q

  last_step : (found : List ℕ) (n : ℕ) (r : StmtResult) (next : ThreadNext) → Comes found n next → next.ended ≡ Some r → Caused found n r
  last_step found n r next (inl (s, e, h)) k = let t = ap (λ (z : ThreadNext). z.ended) e in absurd (cc)
  last_step found n r next (inr (q, e, h)) k = (q, (cc), h)

  along : 0 < length x.block → 0 < x.patience → (s : ThreadStage) (seen found : List ℕ) (last : ℕ) (r : StmtResult) → AreIn x seen s → Ends script (at s) found last r
      → Caused (seen ++ found) last r
  along some patient s seen [] last r h k =
      subst (λ (l : List ℕ). Caused l last r) (sym (append-nil seen)) (last_step seen last r (thread_after script (at s) (Value last)) (each_step some patient s seen last h) k)
  along some patient s seen (n ∷ found) last r h k =
      subst (λ (l : List ℕ). Caused l last r) (append_assoc seen (n ∷ []) found)
      (by_step (thread_after script (at s) (Value n)) (each_step some patient s seen n h) k (λ z g j. along some patient z (seen ++ n ∷ []) found last r g j))
    where
      by_step : (next : ThreadNext) → Comes seen n next → (next.ended ≡ None) × Ends script next.thread found last r
          → ((z : ThreadStage) → AreIn x (seen ++ n ∷ []) z → Ends script (at z) found last r → Caused ((seen ++ n ∷ []) ++ found) last r)
          → Caused ((seen ++ n ∷ []) ++ found) last r
      by_step next (inl (z, e, g)) j rest = rest z g (subst (λ (y : ThreadNext). Ends script y.thread found last r) e j.1)
      by_step next (inr (q, e, g)) j rest = let t = j.0 in absurd (cc)

  begun : BeginsCall x → AreIn x [] (stage.Try 0 0 true)
  begun b = record {
    tried = record { rounds = []; part = []; is = refl; whole = refl; taken = refl; at = refl; there = b.channels; in_time = λ g. b.patient };
    counted = λ g. refl;
    fives_is = refl;
  }

pub same_stage : (x : ThreadAt) (s : ThreadStage) → x.stage ≡ s → record x { stage = s } ≡ x
same_stage x s e = ap (λ (z : ThreadStage). record x { stage = z }) (sym e)

pub calls_end : CallsEndForCause
calls_end script x found last r b h =
    along script x b.block b.patient (stage.Try 0 0 true) [] found last r (begun script x b)
    (subst (λ (z : ThreadAt). Ends script z found last r) (sym (same_stage x (stage.Try 0 0 true) b.stage)) h)
