-- The views of one target through a step: of its worker, of a thread within a call, or of a direct store.
use Rattle.std.proofs.Common.{◌≡◌, ◌≢◌, ◌∙◌, ap, subst, sym, ℕ, ◌<◌, Bool, List, ◌++◌, length, length-set, map, set, get_or, get_or-set_same, get_or-set_other, Some, refl, true, false, ◌==◌, []}
use Rattle.sb_core.proofs.Names.{Act, act_word, act_wrote, AreViews, as_own, clean_channels, Deed, exchanged, Follows, GivesUp, EndedCall, HasView, in_work, IsActThere, IsBlock, IsSoundStage, IsSoundThreadStage, loaded, map-append, no_run, Observation, on_word, own_calls, OwnCall, place_of, Rule, RuleLaws, RunAt, Script, Served, served_by, set-get_or, SharedAt, ShowsThread, slice_index, StmtResult, stored, StrayMay, TargetViews, Tells, thread_after, thread_deed, thread_place_of, thread_plan, thread_view, ThreadAt, ThreadGoes, ThreadPlace, ThreadView, words_after, words_of, worker_after, worker_deed, worker_place_of, worker_plan, worker_view, WorkerAt, WorkerPlace, WorkerView, ℕ_discrete}
use Rattle.sb_actor.specs.Moves.{ended}
use Rattle.sb_core.proofs.Sets.{set_else, set_here}
use Rattle.sb_actor.specs.declared.acts.Act.TheVariants as act
use Rattle.sb_core.proofs.Numbers.{is_same, not_same}

-- the views of threads of which one went on
views_set : (script : Script) (t : ℕ) (after : List ThreadView) (runs : List RunAt) (k : ℕ) (z : RunAt) → HasView script t after k z → k < length runs
    → ((j : ℕ) → j < length runs → j ≢ k → HasView script t after j (get_or runs j no_run)) → (j : ℕ) → j < length (set runs k z)
    → HasView script t after j (get_or (set runs k z) j no_run)
views_set script t after runs k z own there others j l = by_place (ℕ_discrete j k)
  where
    by_place : Dec (j ≡ k) → HasView script t after j (get_or (set runs k z) j no_run)
    by_place (yes s) =
        subst (λ q. HasView script t after q (get_or (set runs k z) q no_run)) (sym s)
        (subst (λ (r : RunAt). HasView script t after k r) (sym (get_or-set_same runs k z no_run there)) own)
    by_place (no n) =
        subst (λ (r : RunAt). HasView script t after j r) (sym (get_or-set_other runs k j z no_run n)) (others j (subst (λ m. j < m) (length-set runs k z) l) n)

-- what a thread's view has after a call ended there
has_more : (v : ThreadView) (old calls : List OwnCall) (more : List EndedCall) → map as_own v.ended_calls ≡ old → calls ≡ old ++ map as_own more → map as_own (v.ended_calls ++ more) ≡ calls
has_more v old calls more e f = map-append as_own v.ended_calls more ∙ (ap (λ (z : List OwnCall). z ++ map as_own more) e ∙ sym f)

module _ (script : Script) (t : ℕ) (words : List ℕ) (calls : List Served) (x : WorkerAt) (runs : List RunAt) (views : TargetViews)
    (h : AreViews script t words calls x runs views) where
  abbrev clean : List Bool
  clean = clean_channels script t

  -- a stage that the worker's view shows in the same way, with the entries that then are there
  pub worker_stays : (y : WorkerAt) (entries : List Served) → y.channels ≡ x.channels → y.channel ≡ x.channel → worker_place_of y.stage ≡ worker_place_of x.stage
      → ((served : List Served) → calls ≡ served ++ in_work x.channel x.stage → entries ≡ served ++ in_work y.channel y.stage)
      → AreViews script t words entries y runs views
  worker_stays y entries a b p more =
      let held = h.worker.holds in
      record {
        rule = h.rule;
        worker = record {
          holds = record { channels = held.channels ∙ sym a; channel = held.channel ∙ sym b; place = held.place ∙ sym p };
          serves = more views.worker.served h.worker.serves;
        };
        many = h.many;
        threads = h.threads;
      }

  -- a thread that its view shows in the same way
  pub thread_stays : (k : ℕ) (z : RunAt) → k < length runs
      → ((v : ThreadView) → ShowsThread (own_calls script t k (get_or runs k no_run).results) (get_or runs k no_run).thread v → ShowsThread (own_calls script t k z.results) z.thread v)
      → AreViews script t words calls x (set runs k z) views
  thread_stays k z there shows =
      let mine = h.threads k there in
      record {
        rule = h.rule;
        worker = h.worker;
        many = h.many ∙ sym (length-set runs k z);
        threads = views_set script t views.threads runs k z (mine.0, mine.1, shows mine.0 mine.2) there (λ j l n. h.threads j l);
      }

  -- a step of the worker on a word
  pub worker_moves : RuleLaws → (d : Deed) (seen : Observation) → x.channel < x.channels → IsSoundStage x.stage → worker_deed x.stage ≡ Some d
      → Tells (worker_plan x) (slice_index words (act_word (worker_plan x))) seen
      → ((served : List Served) → calls ≡ served ++ in_work x.channel x.stage
      → calls ≡ (served ++ served_by x.channel (worker_place_of x.stage) d) ++ in_work (worker_after x seen).channel (worker_after x seen).stage)
      → (after : TargetViews)
      × AreViews script t (set words (act_word (worker_plan x)) (act_wrote (worker_plan x) (slice_index words (act_word (worker_plan x))))) calls (worker_after x seen) runs after
  worker_moves laws d seen within sound deed tells more =
      let v = views.worker in
      let held = h.worker.holds in
      let n : ℕ = slice_index words (act_word (worker_plan x)) in
      let f : Follows v x d n seen = laws.worker_follows v x d n seen held within sound deed tells in
      let next : WorkerView = worker_view v d n in
      let by : served_by v.channel v.place d ≡ served_by x.channel (worker_place_of x.stage) d =
      ap (λ (z : ℕ × WorkerPlace). served_by z.0 z.1 d) (λ j. (held.channel j, held.place j)) in (
        record { worker = next; threads = views.threads },
        record {
          rule = subst (λ z. Rule clean (set words (act_word (worker_plan x)) z) next views.threads) (sym f.writes)
              (laws.worker_keeps clean words v views.threads (act_word (worker_plan x)) d h.rule f.may);
          worker = record {
            holds = f.holds;
            serves = more v.served h.worker.serves
                ∙ ap (λ (z : List Served). (v.served ++ z) ++ in_work (worker_after x seen).channel (worker_after x seen).stage) (sym by);
          };
          many = h.many;
          threads = h.threads;
        },
      )

  -- a step of a thread within a call
  pub thread_moves : RuleLaws → (k : ℕ) (d : Deed) (seen : Observation) (results : List StmtResult) → k < length runs
      → IsSoundThreadStage (length (get_or runs k no_run).thread.clean) (get_or runs k no_run).thread.patience (get_or runs k no_run).thread.block (get_or runs k no_run).thread.stage
      → IsBlock (get_or runs k no_run).thread.thread (get_or runs k no_run).thread.block
      → GivesUp (get_or runs k no_run).thread.clean (get_or runs k no_run).thread.stage
      → thread_deed (get_or runs k no_run).thread.block (get_or runs k no_run).thread.stage ≡ Some d
      → Tells (thread_plan script (get_or runs k no_run).thread) (slice_index words (act_word (thread_plan script (get_or runs k no_run).thread))) seen
      → own_calls script t k results
      ≡ own_calls script t k (get_or runs k no_run).results
      ++ map as_own (ended (get_or runs k no_run).thread.clean (thread_place_of (get_or runs k no_run).thread.block (get_or runs k no_run).thread.stage) d)
      → (after : TargetViews) × AreViews script t
      (set words (act_word (thread_plan script (get_or runs k no_run).thread))
      (act_wrote (thread_plan script (get_or runs k no_run).thread) (slice_index words (act_word (thread_plan script (get_or runs k no_run).thread)))))
      calls x (set runs k (record { thread = (thread_after script (get_or runs k no_run).thread seen).thread; results = results })) after
  thread_moves laws k d seen results there sound block gives deed tells more =
      let y : ThreadAt = (get_or runs k no_run).thread in
      let mine = h.threads k there in
      let v = mine.0 in
      let held = mine.2.holds in
      let n : ℕ = slice_index words (act_word (thread_plan script y)) in
      let f : ThreadGoes script v y d n seen = laws.thread_follows script v y d n seen held sound block gives deed tells in
      let next : ThreadView = thread_view v d n in
      let after : List ThreadView = set views.threads k next in
      let z : RunAt = record { thread = (thread_after script y seen).thread; results = results } in
      let by : ended v.clean v.place d ≡ ended y.clean (thread_place_of y.block y.stage) d =
      ap (λ (q : List Bool × ThreadPlace). ended q.0 q.1 d) (λ j. (held.clean j, held.place j)) in
      let has : map as_own next.ended_calls ≡ own_calls script t k results =
      has_more v (own_calls script t k (get_or runs k no_run).results) (own_calls script t k results) (ended v.clean v.place d) mine.2.has
      (more ∙ ap (λ (q : List EndedCall). own_calls script t k (get_or runs k no_run).results ++ map as_own q) (sym by)) in (
        record { worker = views.worker; threads = after },
        record {
          rule = subst (λ m. Rule clean (set words (act_word (thread_plan script y)) m) views.worker after) (sym f.writes)
              (laws.thread_keeps clean words views.worker views.threads k (act_word (thread_plan script y)) v d h.rule mine.1 f.may);
          worker = h.worker;
          many = length-set views.threads k next ∙ (h.many ∙ sym (length-set runs k z));
          threads = views_set script t after runs k z (next, set_here views.threads k next v mine.1, record { holds = f.holds; has = has }) there
              (λ j l ne. let u = h.threads j l in (u.0, set_else views.threads k j next ne ∙ u.1, u.2));
        },
      )

  -- a direct step
  pub stray_moves : RuleLaws → (w : ℕ) (d : Deed) → StrayMay clean w d → AreViews script t (words_after words w d) calls x runs views
  stray_moves laws w d may =
      record { rule = laws.stray_keeps clean words views.worker views.threads w d h.rule may; worker = h.worker; many = h.many; threads = h.threads }

-- the step is on a word of this target
abbrev pub names : Act → ℕ → Bool
names (act.Load t word) u = t == u
names (act.Store t word value) u = t == u
names (act.Exchange t word from to) u = t == u
names _ u = false

-- a load gives what is there
pub tells : (s : SharedAt) (a : Act) (u : ℕ) → names a u ≡ true → Tells a (slice_index (words_of s.words u) (act_word a)) (on_word s a).seen
tells s (act.Load t word) u e = ap (λ z. slice_index (words_of s.words z) (place_of word)) (is_same t u e)
tells s (act.Store t word value) u e = tt
tells s (act.Exchange t word from to) u e = ap (λ z. slice_index (words_of s.words z) (place_of word)) (is_same t u e)
tells s _ u e = absurd (cc)

-- the words of its target
pub named_words : (s : SharedAt) (a : Act) (u : ℕ) → names a u ≡ true → IsActThere s.words a
    → words_of (on_word s a).shared.words u ≡ set (words_of s.words u) (act_word a) (act_wrote a (slice_index (words_of s.words u) (act_word a)))
named_words s (act.Load t word) u e h = sym (set-get_or (words_of s.words u) (place_of word) 0)
named_words s (act.Store t word value) u e h =
    subst (λ z. words_of (set s.words t (stored (words_of s.words t) word value)) z ≡ set (words_of s.words z) (place_of word) value) (is_same t u e)
    (get_or-set_same s.words t (stored (words_of s.words t) word value) [] h.listed)
named_words s (act.Exchange t word from to) u e h =
    subst (λ z. words_of (set s.words t (stored (words_of s.words t) word (exchanged (loaded (words_of s.words t) word) from to))) z
    ≡ set (words_of s.words z) (place_of word) (exchanged (slice_index (words_of s.words z) (place_of word)) from to)) (is_same t u e)
    (get_or-set_same s.words t (stored (words_of s.words t) word (exchanged (loaded (words_of s.words t) word) from to)) [] h.listed)
named_words s _ u e h = absurd (cc)

-- and those of another
pub other_words : (s : SharedAt) (a : Act) (u : ℕ) → names a u ≡ false → words_of (on_word s a).shared.words u ≡ words_of s.words u
other_words s (act.Store t word value) u e =
    get_or-set_other s.words t u (stored (words_of s.words t) word value) [] (λ f. absurd (not_same t u e (sym f)))
other_words s (act.Exchange t word from to) u e =
    get_or-set_other s.words t u (stored (words_of s.words t) word (exchanged (loaded (words_of s.words t) word) from to)) [] (λ f. absurd (not_same t u e (sym f)))
other_words s _ u e = refl
