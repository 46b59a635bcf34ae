-- In every world of a script each word, each copy and each value that a result shows has a source.
use Rattle.std.proofs.Common.{◌≡◌, ◌⊎◌, inl, inr, ◌∙◌, refl, ap, subst, sym, ℕ, ◌+◌, ◌*◌, ◌%◌, ◌<◌, ◌≤◌, true, false, ◌==◌, if◌then◌else◌, List, [], ◌∷◌, ◌++◌, length, length-set, set, get_or, get_or-set_other, Option, None, Some, IfSome, slice_get, lit<, lit≤, arith}
use Rattle.sb_core.proofs.Names.{Answer, AreSourcedCopies, AreSourcedWords, at, CallResult, channels_of, Copy, drained, End, Entry, entry_of, first_unfinished, first_worker, first_workers, free_channels, Give, HasSource, is_statement, IsActThere, IsOfScript, IsReady, IsSoundThreadStage, IsSourced, nat_tests, no_run, no_worker, NoBlockIsInvented, on_word, on_worker, opening_at, option_to_list, played, Policy, report_of, results_of, run_at, RunAt, Script, SharedAt, Shows, ShowsCall, slice_index, SoundStatements, SoundTargets, start_world, Statement, statement_at, step, StmtResult, stray_row, Take, target_decision, Thread, thread_after, thread_plan, ThreadAt, threads_at, ThreadStage, value_in, worker_at, worker_plan, worker_step, WorkerAt, WorkerStage, WorldAt, WorldsAreSourced, ℕ_discrete}
use Rattle.sb_actor.specs.ThreadStages as thread
use Rattle.sb_actor.specs.WorkerStages.{Reply}
use Rattle.sb_statements.specs.declared.results.CallResult.TheVariants as call
use Rattle.sb_statements.specs.declared.results.StmtResult.TheVariants as result
use Rattle.sb_statements.specs.declared.statements.Statement.TheVariants as statement
use Rattle.sb_core.specs.Runs.{ended}
use Rattle.sb_core.proofs.Bounds.{ready_sound}
use Rattle.sb_core.proofs.Beginning.{drained_threads}
use Rattle.sb_core.proofs.Opening.{opened}
use Rattle.sb_core.proofs.Belonging.{leads_of, of_end, of_run, Keeps, holds_on}
use Rattle.sb_core.proofs.Sets.{each_set}
use Rattle.sb_core.proofs.Sourcing.{in_front, more_block, more_copy, more_reply, more_source, sourced_words, IsTracedWorker, own_copies, own_traced, own_words}
use Rattle.sb_core.proofs.Starting.{each_is, free_length, start_run, words_at, so_many}
use Rattle.sb_core.proofs.Existence.{listed, sound_at, thread_there, word_parts, of_own}
use Rattle.sb_core.proofs.ThreadKeeping.{thread_book}
use Rattle.sb_core.proofs.ThreadSources.{Finds, FindsAt, IsTracedThread, Traces, row_writes, traced_first, step_traces}
use Rattle.sb_core.proofs.Numbers.{none_of}
use Rattle.sb_core.proofs.Reaching.{EachResult, one_more}
use Rattle.sb_core.proofs.RunLaws.{of_report}

-- the entries stay, or one comes
abbrev pub Grown : List Entry → List Entry → Type 0
Grown es after = (after ≡ es) ⊎ ((e : Entry) × (after ≡ es ++ e ∷ []))

pub grow : (P : List Entry → Type 0) (es after : List Entry) → ((e : Entry) → P es → P (es ++ e ∷ [])) → Grown es after → P es → P after
grow P es after more (inl e) h = subst P (sym e) h
grow P es after more (inr g) h = subst P (sym g.1) (more g.0 h)

-- what was traced stays so
module _ (script : Script) (es : List Entry) (e : Entry) (t : ℕ) where
  pub more_worker : (c : ℕ) (stage : WorkerStage) → IsTracedWorker script es t c stage → IsTracedWorker script (es ++ e ∷ []) t c stage
  more_worker c (End count) h = more_block script es e t c 2 count h
  more_worker c (Copy count end words) h = more_copy script es e t c _ h
  more_worker c (Take taken) h = more_copy script es e t c taken h
  more_worker c (Answer taken) h = more_copy script es e t c taken h
  more_worker c (Give taken reply) h = (h.0, h.1, in_front es e h.0 h.1 h.2, h.3, h.4, h.5)
  more_worker c (Reply taken reply i) h = (h.0, h.1, in_front es e h.0 h.1 h.2, h.3, h.4, h.5)
  more_worker c _ h = tt

  more_thread : (stage : ThreadStage) → IsTracedThread script es t stage → IsTracedThread script (es ++ e ∷ []) t stage
  more_thread (thread.Fetch c words) h = λ i l. more_block script es e t c (3 + i) (slice_index words i) (h i l)
  more_thread (thread.Free c words) h = λ i l. more_block script es e t c (3 + i) (slice_index words i) (h i l)
  more_thread _ h = tt

  more_call : (r : CallResult) → ShowsCall script es t r → ShowsCall script (es ++ e ∷ []) t r
  more_call (call.Reply c reply) h = more_reply script es e t c reply h
  more_call (call.SendLost c found) h = h
  more_call (call.Foreign c mark) h = more_block script es e t c 3 mark h
  more_call _ h = tt

  pub more_shows : (s : Statement) (r : StmtResult) → Shows script es t s r → Shows script (es ++ e ∷ []) t s r
  more_shows (statement.Call tag args) (result.Call r) h = more_call r h
  more_shows (statement.Exchange u word from to) (result.Found x) h = more_source script es e u word.channel word.at x h
  more_shows (statement.Load u word) (result.Found x) h = more_source script es e u word.channel word.at x h
  more_shows _ _ h = tt

-- each value that a result shows has a source
abbrev pub RunShows : Script → List Entry → ℕ → ℕ → RunAt → Type 0
RunShows script es t k x = EachResult (λ t k i s r. Shows script es t s r) script t k x

pub record Traced (script : Script) (w : WorldAt) : Type 0 where
  pub words : AreSourcedWords script w.shared.book.entries w.shared.words
  pub copies : AreSourcedCopies script w.shared.book.entries
  pub workers : (t : ℕ) → t < length w.workers → IsTracedWorker script w.shared.book.entries t (worker_at w t).channel (worker_at w t).stage
  pub threads : (t k : ℕ) → k < length (threads_at w t) → IsTracedThread script w.shared.book.entries t (run_at w t k).thread.stage
  pub shown : (t k : ℕ) → k < length (threads_at w t) → RunShows script w.shared.book.entries t k (run_at w t k)

-- what a step of a worker leaves
pub record Own (script : Script) (w : WorldAt) (t : ℕ) (y : WorkerAt) (s : SharedAt) : Type 0 where
  pub words : AreSourcedWords script s.book.entries s.words
  pub copies : AreSourcedCopies script s.book.entries
  pub own : IsTracedWorker script s.book.entries t y.channel y.stage
  pub grown : Grown w.shared.book.entries s.book.entries

module _ (script : Script) (w : WorldAt) (t channels c : ℕ) where
  pub grown_at : (stage : WorkerStage)
      → Grown w.shared.book.entries (on_worker w.shared t (record { target = t; channels = channels; channel = c; stage = stage }) (worker_plan (record { target = t; channels = channels; channel = c; stage = stage }))).shared.book.entries
  grown_at (Answer taken) = inr (entry_of w.shared.book.space t c taken (target_decision w.shared.book t taken), refl)
  grown_at _ = inl refl

own_step : (script : Script) (w : WorldAt) (t : ℕ) → Keeps script (Traced script) w → t < length w.workers → Own script w t (worker_at (worker_step w t) t) (worker_step w t).shared
own_step script w t r there =
    let k = r.kept.workers t there in
    let x = worker_at w t in
    let h = r.has.workers t there in
    of_own w t r.kept there (λ x y s. Own script w t y s) (record {
      words = own_words script w t x.channels x.channel r.kept there k.within k.few k.sized r.has.words r.has.copies x.stage k.sound h;
      copies = own_copies script w t x.channels x.channel r.kept there k.within k.few k.sized r.has.words r.has.copies x.stage h;
      own = own_traced script w t x.channels x.channel r.kept there k.within k.few k.sized r.has.words r.has.copies x.stage k.sound h;
      grown = grown_at script w t x.channels x.channel x.stage;
    })

traced_worker : (script : Script) (w : WorldAt) (t : ℕ) → Keeps script (Traced script) w → t < length w.workers → Traced script (worker_step w t)
traced_worker script w t r there =
    let o = own_step script w t r there in
    let es = w.shared.book.entries in
    let after = (worker_step w t).shared.book.entries in
    record {
      words = o.words;
      copies = o.copies;
      workers = λ u l. each u (subst (λ n. u < n) (length-set w.workers t _) l) (ℕ_discrete u t) o;
      threads = λ u k l. grow (λ z. IsTracedThread script z u (run_at w u k).thread.stage) es after (λ e. more_thread script es e u (run_at w u k).thread.stage) o.grown (r.has.threads u k l);
      shown = λ u k l i q f.
          let s = r.has.shown u k l i q f in
          (s.0, s.1, grow (λ z. Shows script z u s.0 q) es after (λ e. more_shows script es e u s.0 q) o.grown s.2);
    }
  where
    each : (u : ℕ) → u < length w.workers → Dec (u ≡ t) → Own script w t (worker_at (worker_step w t) t) (worker_step w t).shared
        → IsTracedWorker script (worker_step w t).shared.book.entries u (worker_at (worker_step w t) u).channel (worker_at (worker_step w t) u).stage
    each u l (yes e) o =
        subst (λ z. IsTracedWorker script (worker_step w t).shared.book.entries z (worker_at (worker_step w t) z).channel (worker_at (worker_step w t) z).stage) (sym e) o.own
    each u l (no ne) o =
        subst (λ (y : WorkerAt). IsTracedWorker script (worker_step w t).shared.book.entries u y.channel y.stage) (sym (get_or-set_other w.workers t u _ no_worker ne))
        (grow (λ z. IsTracedWorker script z u (worker_at w u).channel (worker_at w u).stage) w.shared.book.entries (worker_step w t).shared.book.entries
        (λ e. more_worker script w.shared.book.entries e u (worker_at w u).channel (worker_at w u).stage) o.grown (r.has.workers u l))

-- what a step of a thread finds
module _ (script : Script) (w : WorldAt) (all : AreSourcedWords script w.shared.book.entries w.shared.words) (x : ThreadAt) where
  abbrev es : List Entry
  es = w.shared.book.entries

  finds_at : (loads most : ℕ) (o : Option Statement) → IfSome o (λ s. is_statement script.targets s ≡ true) → (y : ThreadAt) → IsActThere w.shared.words (stray_row script y loads most o).step
      → FindsAt script es o (value_in (on_word w.shared (stray_row script y loads most o).step).seen)
  finds_at loads most (Some (statement.Exchange u word from to)) good y h = let low = (word_parts script u word good).1 in all u word.channel word.at (omega (arith, low)) h.inside
  finds_at loads most (Some (statement.Load u word)) good y h = let low = (word_parts script u word good).1 in all u word.channel word.at (omega (arith, low)) h.inside
  finds_at loads most _ good y h = tt

  finds : (stage : ThreadStage) → IsSoundThreadStage (length x.clean) x.patience x.block stage → IfSome (statement_at script x.target x.thread x.place) (λ s. is_statement script.targets s ≡ true)
      → IsActThere w.shared.words (thread_plan script (record x { stage = stage })) → Finds script es x stage (value_in (on_word w.shared (thread_plan script (record x { stage = stage }))).seen)
  finds (thread.Send c) s good h = (all x.target c 0 (lit< tt) h.inside).state refl
  finds (thread.Fetch c words) s good h = let low = s.1 in (all x.target c (1 + (3 + length words)) (omega (arith, low)) h.inside).word (3 + length words) refl
  finds (thread.Stray loads most) s good h = finds_at loads most (statement_at script x.target x.thread x.place) good (record x { stage = thread.Stray loads most }) h
  finds _ s good h = tt

module _ (targets : SoundTargets) (statements : SoundStatements) (script : Script) where
  traced_thread : (w : WorldAt) (t k : ℕ) → Keeps script (Traced script) w → k < length (threads_at w t) → Traced script (step script w (Thread t k))
  traced_thread w t k r there =
      let x = r.kept.threads t k there in
      let at = r.runs.stands t k there in
      let es = w.shared.book.entries in
      let y = (run_at w t k).thread in
      let good = sound_at script y.target y.thread y.place (ready_sound r.runs.policies script r.runs.ready) statements in
      let inside = thread_there script w r.kept r.runs t k there statements in
      let seen = (on_word w.shared (thread_plan script y)).seen in
      let next = thread_after script y seen in
      let told : Traces script es y next =
      step_traces script es y x.sound at.calling at.over (subst (λ u. IsTracedThread script es u y.stage) (sym x.its_target) (r.has.threads t k there)) seen
      (finds script w r.has.words y y.stage x.sound good inside) in
      let z : RunAt = record { thread = next.thread; results = (run_at w t k).results ++ option_to_list next.ended } in
      let here = listed w.threads t k there in
      let book : es ≡ (step script w (Thread t k)).shared.book.entries = ap (λ b. b.entries) (sym (thread_book script w t k r.kept r.runs there statements)) in
      record {
        words = subst (λ q. AreSourcedWords script q (step script w (Thread t k)).shared.words) book
            (sourced_words script es w.shared (thread_plan script y) r.has.words inside (row_writes script es y y.stage x.sound at.calling x.short at.block good));
        copies = subst (λ q. AreSourcedCopies script q) book r.has.copies;
        workers = λ u l. subst (λ q. IsTracedWorker script q u (worker_at w u).channel (worker_at w u).stage) book (r.has.workers u l);
        threads = subst (λ q. (u j : ℕ) → j < length (get_or (set w.threads t (set (threads_at w t) k z)) u [])
            → IsTracedThread script q u (get_or (get_or (set w.threads t (set (threads_at w t) k z)) u []) j no_run).thread.stage) book
            (each_set (λ u j (q : RunAt). IsTracedThread script es u q.thread.stage) no_run w.threads t k z here there r.has.threads
            (subst (λ u. IsTracedThread script es u next.thread.stage) x.its_target told.stage));
        shown = subst (λ q. (u j : ℕ) → j < length (get_or (set w.threads t (set (threads_at w t) k z)) u [])
            → RunShows script q u j (get_or (get_or (set w.threads t (set (threads_at w t) k z)) u []) j no_run)) book
            (each_set (RunShows script es) no_run w.threads t k z here there r.has.shown
            (one_more (λ t k i s r. Shows script es t s r) script t k (run_at w t k) next.ended x.its_target x.its_number x.counted (r.has.shown t k there) told.shown));
      }

  -- at the start
  free_source : (t n c j : ℕ) → j < 65 → at c j < n * 65 → HasSource script [] t c j (slice_index (free_channels n) (at c j))
  free_source t n c j l m = record {
    state = λ e. inl (subst (λ z. (1 ≤ z) × (z ≤ 5)) (sym (opened n (at c j) m ∙ zero_place j e)) (lit≤ tt, lit≤ tt));
    word = λ i e. inl (opened n (at c j) m ∙ other_place i e);
  }
    where
      zero_place : (j : ℕ) → j ≡ 0 → opening_at (at c j) ≡ 1
      zero_place j e =
          let whole : (at c j) % 65 ≡ 0 = omega (arith, e) in
          ap (λ z. if z == 0 then 1 else 0) whole

      other_place : (i : ℕ) → j ≡ 1 + i → opening_at (at c j) ≡ 0
      other_place i e =
          let whole : (at c j) % 65 ≡ 1 + i = omega (arith, e, l) in
          ap (λ z. if z == 0 then 1 else 0) whole ∙ ap (λ b. if b then 1 else 0) (apart i)
        where
          apart : (i : ℕ) → (1 + i == 0) ≡ false
          apart i = grind (arith, nat_tests)

  traced_start : (policies : List Policy) → IsReady policies script → Traced script (start_world policies script)
  traced_start policies h = record {
    words = λ t c j l m.
        let n = channels_of (slice_get script.targets t) in
        let size = free_length n in
        let same = words_at script.targets t in
        subst (λ (z : List ℕ). HasSource script [] t c j (slice_index z (at c j))) (sym same)
        (free_source t n c j l (subst (λ z. at c j < z) (ap (λ (z : List ℕ). length z) same ∙ size) m));
    copies = λ n e f. absurd (none_of n e f);
    workers = λ t l.
        subst (λ (x : WorkerAt). IsTracedWorker script [] t x.channel x.stage)
        (sym (each_is (first_worker script.targets) (first_workers script.targets) refl (λ n. refl) (length script.targets) t no_worker
        (subst (λ n. t < n) (so_many (first_worker script.targets) (first_workers script.targets) refl (λ n. refl) (length script.targets)) l))) tt;
    threads = λ t k l. subst (λ (x : RunAt). IsTracedThread script [] t x.thread.stage) (sym (start_run targets statements policies script h t k l)) (traced_first script [] t (statement_at script t k 0));
    shown = λ t k l i r e. absurd (none_of i r (ap (λ (x : RunAt). slice_get x.results i) (sym (start_run targets statements policies script h t k l)) ∙ e));
  }

  traced_of : (w : WorldAt) → IsOfScript script w → Keeps script (Traced script) w
  traced_of w o =
      holds_on targets statements script (Traced script) (traced_worker script) traced_thread o.policies o.ready (traced_start o.policies o.ready) w (leads_of script w o)

  -- the report of such a world
  sourced_of : (w : WorldAt) (threads : List (List RunAt)) → w.threads ≡ threads → IsOfScript script w → IsSourced script (report_of w.shared (results_of threads))
  sourced_of w threads same o =
      let r = (traced_of w o).has in
      let es = w.shared.book.entries in
      record {
        copies = r.copies;
        results = of_report (λ t k i s r. Shows script es t s r) script threads
            (subst (λ (z : List (List RunAt)). (t k : ℕ) → k < length (get_or z t []) → RunShows script es t k (get_or (get_or z t []) k no_run)) same r.shown);
        words = r.words;
      }

pub worlds_are_sourced : SoundTargets → SoundStatements → WorldsAreSourced
worlds_are_sourced targets statements script w o = sourced_of targets statements script w w.threads refl o

pub no_block_is_invented : SoundTargets → SoundStatements → NoBlockIsInvented
no_block_is_invented targets statements policies script schedule can = by_end (first_unfinished script before.threads)
  where
    before : WorldAt
    before = played policies script schedule

    by_end : (o : Option (ℕ × ℕ)) → IsSourced script (ended before o).report
    by_end None =
        sourced_of targets statements script (drained before) before.threads (drained_threads before) (of_end targets statements policies script schedule can)
    by_end (Some thread) = sourced_of targets statements script before before.threads refl (of_run policies script schedule can)
