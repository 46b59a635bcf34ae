-- A step of a thread keeps the rule of each target, and a result that it ends with suits its statement.
use Rattle.std.proofs.Common.{◌≡◌, ◌≢◌, ◌∙◌, refl, ap, subst, sym, ℕ, ◌+◌, ◌<◌, Bool, true, false, ◌==◌, if◌then◌else◌, List, [], ◌∷◌, ◌++◌, append_assoc, length, set, get_or-set_same, get_or-set_other, Option, None, Some, IfSome, arith}
use Rattle.sb_core.proofs.Names.{abandon, Act, act_word, act_wrote, append-nil, AreViews, block, block_of, calls_at, clean_channels, Deed, ends, fetch, fill, GivesUp, goes_on, InRule, is_call, is_calling, is_statement, IsActThere, IsBlock, IsRunning, IsWorld, mark_at, mark_in, met, no_call, Observation, on_word, option_to_list, own_calls, own_from, own_of, OwnCall, RuleLaws, run_at, RunAt, Script, send, Served, SharedAt, slice_index, SoundStatements, SoundTargets, Statement, statement_at, statements_of, step, StmtResult, stray_row, StrayMay, take_it, TargetViews, Tells, Thread, thread_after, thread_deed, thread_place_of, thread_plan, ThreadAt, ThreadNext, threads_at, ThreadStage, value_in, wait, words_of, worker_at, WorldAt, wrote, ℕ_discrete}
use Rattle.sb_actor.specs.Moves.{free}
use Rattle.sb_actor.specs.ThreadStages as thread
use Rattle.sb_statements.specs.declared.results.StmtResult.TheVariants as result
use Rattle.sb_statements.specs.declared.statements.Statement.TheVariants as statement
use Rattle.sb_core.proofs.DirectStores.{by_hand}
use Rattle.sb_core.proofs.Bounds.{few_statements, ready_sound}
use Rattle.sb_core.proofs.Learning.{learned}
use Rattle.sb_core.proofs.Opening.{first_place}
use Rattle.sb_core.proofs.ViewSteps.{stray_moves, thread_moves, thread_stays, named_words, names, other_words, tells}
use Rattle.sb_core.proofs.Existence.{listed, sound_at, thread_there, HasUnits}
use Rattle.sb_core.proofs.ThreadKeeping.{facts, thread_book, within}
use Rattle.sb_core.proofs.ThreadResults.{Learns, StepResult, Waits, ended_own, own_by, own_in, step_tells}
use Rattle.sb_core.proofs.Numbers.{apart, self_same, from_zero}

-- the calls of results with one more
own_option : Script → ℕ → ℕ → ℕ → Option StmtResult → List OwnCall
own_option script t k i None = []
own_option script t k i (Some r) = own_of (clean_channels script t) (block_of (mark_at k i) (statement_at script t k i)) r

own_more : (script : Script) (t k i j : ℕ) (results : List StmtResult) (o : Option StmtResult) → j ≡ i + length results
    → own_from script t k i (results ++ option_to_list o) ≡ own_from script t k i results ++ own_option script t k j o
unfolding own_option
own_more script t k i j [] None e = refl
own_more script t k i j [] (Some r) e =
    let same : i ≡ j = omega (arith, e) in
    append-nil (own_option script t k i (Some r)) ∙ ap (λ z. own_option script t k z (Some r)) same
own_more script t k i j (q ∷ results) o e =
    ap (λ (z : List OwnCall). own_of (clean_channels script t) (block_of (mark_at k i) (statement_at script t k i)) q ++ z) (own_more script t k (i + 1) j results o (omega (arith, e)))
    ∙ sym (append_assoc (own_of (clean_channels script t) (block_of (mark_at k i) (statement_at script t k i)) q) (own_from script t k (i + 1) results) (own_option script t k j o))

-- a call's step is on a word of its own target
call_names : (script : Script) (x : ThreadAt) (u : ℕ) (stage : ThreadStage) → is_calling stage ≡ true → names (thread_plan script (record x { stage = stage })) u ≡ (x.target == u)
call_names script x u (thread.Stray loads most) e = absurd (cc)
call_names script x u thread.Over e = absurd (cc)
call_names script x u _ e = refl

-- and is of a kind
call_deed : (block : List ℕ) (stage : ThreadStage) → is_calling stage ≡ true → (d : Deed) × (thread_deed block stage ≡ Some d)
call_deed block (thread.Try c rounds all_abandoned) e = (take_it, refl)
call_deed block (thread.Fill c i) e = (fill (slice_index block i), refl)
call_deed block (thread.Send c) e = (send, refl)
call_deed block (thread.Wait c loads) e = (wait, refl)
call_deed block (thread.Fetch c words) e = (fetch, refl)
call_deed block (thread.Free c words) e = (free, refl)
call_deed block (thread.Abandon c) e = (abandon, refl)
call_deed block _ e = absurd (cc)

-- what was learned is of the value that the step found
learned_here : (script : Script) (x : ThreadAt) (stage : ThreadStage) (n : ℕ) (seen : Observation) → (is_calling stage ≡ true → Tells (thread_plan script (record x { stage = stage })) n seen)
    → Learns script x stage n → Learns script x stage (value_in seen)
learned_here script x (thread.Try c rounds all_abandoned) n seen t l = subst (λ z. Learns script x (thread.Try c rounds all_abandoned) z) (sym (t refl)) l
learned_here script x (thread.Send c) n seen t l = subst (λ z. Learns script x (thread.Send c) z) (sym (t refl)) l
learned_here script x _ n seen t l = l

-- the mark of a call's block
marked : (mark : ℕ) (o : Option Statement) → is_call o ≡ true → mark_in (block_of mark o) ≡ mark
marked mark (Some (statement.Call tag args)) e = refl
marked mark _ e = absurd (cc)

-- outside a call a thread's view is outside one before and after the step
pick_place : (b : Bool) (x y : ThreadNext) → thread_place_of x.thread.block x.thread.stage ≡ no_call → thread_place_of y.thread.block y.thread.stage ≡ no_call
    → thread_place_of (if b then x else y).thread.block (if b then x else y).thread.stage ≡ no_call
pick_place true x y e f = e
pick_place false x y e f = f

ends_place : (script : Script) (x : ThreadAt) (r : StmtResult) → thread_place_of (ends script x r).thread.block (ends script x r).thread.stage ≡ no_call
ends_place script x r = first_place (mark_at x.thread (x.place + 1)) (statement_at script x.target x.thread (x.place + 1))

stray_place : (script : Script) (x : ThreadAt) (loads most : ℕ) (o : Option Statement) (seen : Observation) → thread_place_of x.block x.stage ≡ no_call
    → thread_place_of ((stray_row script x loads most o).next seen).thread.block ((stray_row script x loads most o).next seen).thread.stage ≡ no_call
stray_place script x loads most (Some (statement.Store t word value)) seen e = ends_place script x result.Stored
stray_place script x loads most (Some (statement.Wait t word value limit)) seen e =
    pick_place (value_in seen == value) (ends script x (result.Met (loads + 1))) (if loads + 1 == most then ends script x (result.Unmet most) else goes_on x (thread.Stray (loads + 1) most))
    (ends_place script x (result.Met (loads + 1)))
    (pick_place (loads + 1 == most) (ends script x (result.Unmet most)) (goes_on x (thread.Stray (loads + 1) most)) (ends_place script x (result.Unmet most)) refl)
stray_place script x loads most (Some (statement.Call tag args)) seen e = e
stray_place script x loads most None seen e = e
stray_place script x loads most _ seen e = ends_place script x (result.Found (value_in seen))

quiet_before : (block : List ℕ) (stage : ThreadStage) → is_calling stage ≡ false → thread_place_of block stage ≡ no_call
quiet_before block (thread.Stray loads most) e = refl
quiet_before block thread.Over e = refl
quiet_before block _ e = absurd (cc)

quiet_after : (script : Script) (x : ThreadAt) (stage : ThreadStage) → is_calling stage ≡ false → (seen : Observation)
    → thread_place_of (thread_after script (record x { stage = stage }) seen).thread.block (thread_after script (record x { stage = stage }) seen).thread.stage ≡ no_call
quiet_after script x (thread.Stray loads most) e seen =
    stray_place script (record x { stage = thread.Stray loads most }) loads most (statement_at script x.target x.thread x.place) seen refl
quiet_after script x thread.Over e seen = refl
quiet_after script x _ e seen = absurd (cc)

quiet_own : (x : ThreadAt) (stage : ThreadStage) → is_calling stage ≡ false → own_by x stage ≡ []
quiet_own x (thread.Stray loads most) e = refl
quiet_own x thread.Over e = refl
quiet_own x _ e = absurd (cc)

module _ (laws : RuleLaws) (law : SoundStatements) (bounds : SoundTargets) (script : Script) (units : HasUnits script) (w : WorldAt) (t k : ℕ) (kept : IsWorld w) (runs : IsRunning script w)
    (all : (u : ℕ) → u < length w.workers → InRule script w u) (there : k < length (threads_at w t))
    (gives : GivesUp (run_at w t k).thread.clean (run_at w t k).thread.stage) (waits : Waits script (run_at w t k).thread (run_at w t k).thread.stage) where
  abbrev x : RunAt
  x = run_at w t k

  abbrev y : ThreadAt
  y = x.thread

  abbrev plan : Act
  plan = thread_plan script y

  abbrev s : SharedAt
  s = (on_word w.shared plan).shared

  abbrev seen : Observation
  seen = (on_word w.shared plan).seen

  abbrev n : ThreadNext
  n = thread_after script y seen

  abbrev z : RunAt
  z = record { thread = n.thread; results = x.results ++ option_to_list n.ended }

  abbrev here : Option Statement
  here = statement_at script y.target y.thread y.place

  abbrev after : WorldAt
  after = step script w (Thread t k)

  its_target : y.target ≡ t
  its_target = (kept.threads t k there).its_target

  its_number : y.thread ≡ k
  its_number = (kept.threads t k there).its_number

  worker_here : t < length w.workers
  worker_here = let e = kept.lists in let l = listed w.threads t k there in omega (arith, e, l)

  act_there : IsActThere w.shared.words plan
  act_there = thread_there script w kept runs t k there law

  marks : y.clean ≡ clean_channels script t
  marks = (runs.stands t k there).clean ∙ ap (λ u. clean_channels script u) its_target

  its_mark : is_call here ≡ true → mark_in y.block ≡ mark_at y.thread y.place
  its_mark e = ap (λ (b : List ℕ). mark_in b) (runs.stands t k there).block ∙ marked (mark_at y.thread y.place) here e

  whole_block : (o : Option Statement) → here ≡ o → is_call o ≡ true → IsBlock y.thread (block_of (mark_at y.thread y.place) o)
  whole_block (Some (statement.Call tag args)) e h =
      let good : is_statement script.targets (statement.Call tag args) ≡ true = subst (λ (o : Option Statement). IfSome o (λ s. is_statement script.targets s ≡ true)) e
      (sound_at script y.target y.thread y.place (ready_sound runs.policies script runs.ready) law) in
      let low = within (statements_of script y.target y.thread) y.place (statement.Call tag args) e in
      let few = few_statements bounds script (ready_sound runs.policies script runs.ready) y.target y.thread in
      laws.blocks tag args y.thread y.place good (units y.target y.thread y.place tag args e) (omega (arith, low, few))
  whole_block _ e h = absurd (cc)

  its_block : is_calling y.stage ≡ true → IsBlock y.thread y.block
  its_block e = subst (λ (b : List ℕ). IsBlock y.thread b) (sym (runs.stands t k there).block) (whole_block here refl (sym (runs.stands t k there).calling ∙ e))

  -- what the thread knows
  pub step_result : StepResult script y y.stage n
  step_result =
      step_tells script y its_mark waits (kept.threads t k there).sound (runs.stands t k there).calling (runs.stands t k there).over seen
      (learned_here script y y.stage (slice_index (words_of w.shared.words t) (act_word plan)) seen
      (λ e. tells w.shared plan t (call_names script y t y.stage e ∙ ap (λ u. u == t) its_target ∙ self_same t))
      (learned script t (words_of w.shared.words t) (calls_at t w.shared.book.entries) (worker_at w t) (threads_at w t) (all t worker_here).0 (all t worker_here).1 k there
      (kept.threads t k there).sound gives waits))

  -- the calls of its results after the step
  more_calls : own_calls script t k z.results ≡ own_calls script t k x.results ++ own_by y y.stage
  unfolding own_option
  more_calls =
      own_more script t k 0 y.place x.results n.ended (from_zero (length x.results) y.place (kept.threads t k there).counted)
      ∙ ap (λ (q : List OwnCall). own_calls script t k x.results ++ q) (of_end n.ended ∙ step_result.own)
    where
      of_end : (o : Option StmtResult) → own_option script t k y.place o ≡ own_in y o
      of_end None = refl
      of_end (Some r) =
          ap (λ (q : List Bool × List ℕ). own_of q.0 q.1 r)
          (λ j. (
            sym marks j,
            (ap (λ (q : ℕ × ℕ). block_of (mark_at q.1 y.place) (statement_at script q.0 q.1 y.place)) (λ i. (sym its_target i, sym its_number i)) ∙ sym (runs.stands t k there).block) j,
          ))

  -- its target, if it is within a call
  call_rule : is_calling y.stage ≡ true
      → (views : TargetViews) × AreViews script t (words_of s.words t) (calls_at t w.shared.book.entries) (worker_at w t) (set (threads_at w t) k z) views
  call_rule e =
      let d = call_deed y.block y.stage e in
      let before = all t worker_here in
      let named : names plan t ≡ true = call_names script y t y.stage e ∙ ap (λ u. u == t) its_target ∙ self_same t in
      let m = thread_moves script t (words_of w.shared.words t) (calls_at t w.shared.book.entries) (worker_at w t) (threads_at w t) before.0 before.1 laws k d.0 seen z.results there
      (kept.threads t k there).sound (its_block e) gives d.1 (tells w.shared plan t named)
      (more_calls ∙ ap (λ (q : List OwnCall). own_calls script t k x.results ++ q) (sym (ended_own y y.stage d.0 d.1))) in (
        m.0,
        subst (λ (q : List ℕ). AreViews script t q (calls_at t w.shared.book.entries) (worker_at w t) (set (threads_at w t) k z) m.0)
            (sym (named_words w.shared plan t named act_there)) m.1,
      )

  -- a target's words, if the thread is outside a call
  hand_words : is_calling y.stage ≡ false → (u : ℕ) → u < length w.workers
      → (views : TargetViews) × AreViews script u (words_of s.words u) (calls_at u w.shared.book.entries) (worker_at w u) (threads_at w u) views
  hand_words e u l = by_name (names plan u) refl
    where
      by_stage : (stage : ThreadStage) → y.stage ≡ stage → is_calling stage ≡ false → names (thread_plan script (record y { stage = stage })) u ≡ true
          → (d : Deed) × StrayMay (clean_channels script u) (act_word (thread_plan script (record y { stage = stage }))) d
          × ((m : ℕ) → wrote d (met d m) m ≡ act_wrote (thread_plan script (record y { stage = stage })) m)
      by_stage (thread.Stray loads most) q f g =
          by_hand script (record y { stage = thread.Stray loads most }) loads most here refl (sound_at script y.target y.thread y.place (ready_sound runs.policies script runs.ready) law) u g
      by_stage _ q f g = absurd (cc)

      by_name : (b : Bool) → names plan u ≡ b → (views : TargetViews) × AreViews script u (words_of s.words u) (calls_at u w.shared.book.entries) (worker_at w u) (threads_at w u) views
      by_name true f =
          let d = by_stage y.stage refl e f in
          let before = all u l in
          let m = stray_moves script u (words_of w.shared.words u) (calls_at u w.shared.book.entries) (worker_at w u) (threads_at w u) before.0 before.1 laws (act_word plan) d.0 d.1 in (
            before.0,
            subst (λ (q : List ℕ). AreViews script u q (calls_at u w.shared.book.entries) (worker_at w u) (threads_at w u) before.0)
                (ap (λ q. set (words_of w.shared.words u) (act_word plan) q) (d.2 (slice_index (words_of w.shared.words u) (act_word plan))) ∙ sym (named_words w.shared plan u f act_there)) m,
          )
      by_name false f =
          let before = all u l in
          (before.0, subst (λ (q : List ℕ). AreViews script u q (calls_at u w.shared.book.entries) (worker_at w u) (threads_at w u) before.0) (sym (other_words w.shared plan u f)) before.1)

  -- its own target then
  hand_rule : is_calling y.stage ≡ false
      → (views : TargetViews) × AreViews script t (words_of s.words t) (calls_at t w.shared.book.entries) (worker_at w t) (set (threads_at w t) k z) views
  hand_rule e =
      let m = hand_words e t worker_here in
      let told = facts script w t k kept runs there law in (
        m.0,
        thread_stays script t (words_of s.words t) (calls_at t w.shared.book.entries) (worker_at w t) (threads_at w t) m.0 m.1 k z there
            (λ v shows. record {
              holds = record {
                number = shows.holds.number ∙ sym told.its_number;
                clean = shows.holds.clean ∙ sym told.its_clean;
                place = shows.holds.place ∙ (quiet_before y.block y.stage e ∙ sym (quiet_after script y y.stage e seen));
              };
              has = shows.has ∙ sym (more_calls ∙ (ap (λ (q : List OwnCall). own_calls script t k x.results ++ q) (quiet_own y y.stage e) ∙ append-nil (own_calls script t k x.results)));
            }),
      )

  own_rule : (b : Bool) → is_calling y.stage ≡ b
      → (views : TargetViews) × AreViews script t (words_of s.words t) (calls_at t w.shared.book.entries) (worker_at w t) (set (threads_at w t) k z) views
  own_rule true e = call_rule e
  own_rule false e = hand_rule e

  -- another target
  other_rule : (u : ℕ) → u ≢ t → u < length w.workers → (b : Bool) → is_calling y.stage ≡ b
      → (views : TargetViews) × AreViews script u (words_of s.words u) (calls_at u w.shared.book.entries) (worker_at w u) (threads_at w u) views
  other_rule u ne l true e =
      let before = all u l in (
        before.0,
        subst (λ (q : List ℕ). AreViews script u q (calls_at u w.shared.book.entries) (worker_at w u) (threads_at w u) before.0)
            (sym (other_words w.shared plan u (call_names script y u y.stage e ∙ apart y.target u (λ f. ne (f ∙ its_target))))) before.1,
      )
  other_rule u ne l false e = hand_words e u l

  -- each target
  pub thread_rules : (u : ℕ) → u < length w.workers → InRule script after u
  thread_rules u l = by_place (ℕ_discrete u t)
    where
      calls : (u : ℕ) → calls_at u w.shared.book.entries ≡ calls_at u s.book.entries
      calls u = ap (λ book. calls_at u book.entries) (sym (thread_book script w t k kept runs there law))

      by_place : Dec (u ≡ t) → InRule script after u
      by_place (yes e) =
          let m = own_rule (is_calling y.stage) refl in
          subst (λ q. InRule script after q) (sym e) (
            m.0,
            subst (λ (q : List Served × List RunAt). AreViews script t (words_of s.words t) q.0 (worker_at w t) q.1 m.0)
                (λ j. (calls t j, sym (get_or-set_same w.threads t (set (threads_at w t) k z) [] (listed w.threads t k there)) j)) m.1,
          )
      by_place (no ne) =
          let m = other_rule u ne l (is_calling y.stage) refl in (
            m.0,
            subst (λ (q : List Served × List RunAt). AreViews script u (words_of s.words u) q.0 (worker_at w u) q.1 m.0)
                (λ j. (calls u j, sym (get_or-set_other w.threads t u (set (threads_at w t) k z) [] ne) j)) m.1,
          )
