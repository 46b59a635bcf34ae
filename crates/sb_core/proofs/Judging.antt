-- Laws that are read off the tables: a worker judges what it copied, the turn is where the stages say, and a finished thread stays.
use Rattle.std.proofs.Common.{◌≡◌, ◌∙◌, ◌⊎◌, inl, inr, refl, ap, subst, sym, ℕ, zero, suc, ◌+◌, Bool, true, false, ◌==◌, if◌then◌else◌, List, [], ◌∷◌, length, set, Some, is_none, slice_get, arith, ◌<◌}
use Rattle.std.specs.Prelude.{◌&&◌, slice_index_or, Option, None}
use Rattle.sb_core.proofs.Names.{all_finished, all_over, answered, append-nil, are_over, Copied, CopiesAreAnswered, CopiesAreJudged, copy_in, FinishedThreadsStay, first_unfinished, is_finished, is_holder, is_load, is_over, IsAtStatement, IsRunning, list_all, nat_le, nat_tests, no_run, Observation, on_worker, or_else, Over, run_at, RunAt, Script, SharedAt, statements_of, target_decision, thread_goes, thread_step, threads_at, ThreadStage, ThreadStep, turn_in, TurnsAreHeld, unfinished_of, worker_after, worker_at, worker_plan, WorkerAt, WorkerStage, WorldAt}
use Rattle.sb_actor.specs.WorkerStages as worker
use Rattle.sb_core.proofs.Sets.{set_same}

-- a choice between two stages with one copy
one_copy : (b : Bool) (x y : WorkerStage) (taken : Copied) → copy_in x ≡ Some taken → copy_in y ≡ Some taken → copy_in (if b then x else y) ≡ Some taken
one_copy true x y taken e f = e
one_copy false x y taken e f = f

judged : (t channels c : ℕ) (stage : WorkerStage) (seen : Observation) (taken : Copied) → copy_in stage ≡ Some taken
    → (is_load (worker_plan (record { target = t; channels = channels; channel = c; stage = stage })) ≡ false)
    × ((copy_in (worker_after (record { target = t; channels = channels; channel = c; stage = stage }) seen).stage ≡ Some taken)
    ⊎ ((worker_after (record { target = t; channels = channels; channel = c; stage = stage }) seen).stage ≡ worker.Look))
judged t channels c (worker.Take copy) seen taken e = (refl, inl (one_copy (turn_in seen) (worker.Answer copy) (worker.Take copy) taken e e))
judged t channels c (worker.Answer copy) seen taken e = (refl, inl e)
judged t channels c (worker.Give copy reply) seen taken e = (refl, inl e)
judged t channels c (worker.Reply copy reply at) seen taken e =
    (refl, inl (one_copy (at == 11) (worker.Ack copy reply) (worker.Reply copy reply (at + 1)) taken e e))
judged t channels c (worker.Ack copy reply) seen taken e = (refl, inr refl)
judged t channels c _ seen taken e = absurd (cc)

pub copies_are_judged : CopiesAreJudged
copies_are_judged w seen taken e = judged w.target w.channels w.channel w.stage seen taken e

pub turns_are_held : TurnsAreHeld
turns_are_held w kept =
    ((λ e t l. (kept.workers t l).turn ∙ ap (λ turn. is_holder turn t) e), (λ holder t e l. (kept.workers t l).turn ∙ ap (λ turn. is_holder turn t) e))

pub copies_are_answered : CopiesAreAnswered
copies_are_answered script w target taken e = at_stage (worker_at w target) (worker_at w target).stage e
  where
    at_stage : (x : WorkerAt) (stage : WorkerStage) → stage ≡ worker.Answer taken
        → (on_worker w.shared target (record x { stage = stage }) (worker_plan (record x { stage = stage }))).shared.book
        ≡ answered w.shared.book target x.channel taken (target_decision w.shared.book target taken)
    at_stage x stage e =
        subst (λ z. (on_worker w.shared target (record x { stage = z }) (worker_plan (record x { stage = z }))).shared.book
        ≡ answered w.shared.book target x.channel taken (target_decision w.shared.book target taken)) (sym e) refl

-- a stage after the last statement
pub over_is : (stage : ThreadStage) → is_over stage ≡ true → stage ≡ Over
over_is Over e = refl
over_is _ e = absurd (cc)

-- nothing is after the end of a list
pub none_behind : {X : Type 0} (xs : List X) (i : ℕ) → nat_le (length xs) i ≡ true → is_none (slice_get xs i) ≡ true
none_behind [] i e = refl
none_behind (x ∷ xs) zero e = absurd (grind (arith, nat_tests))
none_behind (x ∷ xs) (suc i) e = none_behind xs i (grind (arith, nat_tests, e))

-- the step of a thread whose statements have ended
still_over : (script : Script) (s : SharedAt) (x : RunAt) (stage : ThreadStage) → stage ≡ Over
    → thread_step script s (record x { thread = record x.thread { stage = stage } }) ≡ record { shared = s; run = record x { thread = record x.thread { stage = stage } } }
still_over script s x stage e =
    subst (λ z. thread_step script s (record x { thread = record x.thread { stage = z } }) ≡ record { shared = s; run = record x { thread = record x.thread { stage = z } } })
    (sym e) (ap (λ r. record { shared = s; run = record { thread = record x.thread { stage = Over }; results = r } }) (append-nil x.results))

pub finished_threads_stay : FinishedThreadsStay
finished_threads_stay script w t k runs there e =
    let x = run_at w t k in
    let over : is_over x.thread.stage ≡ true = (runs.stands t k there).over ∙ none_behind (statements_of script x.thread.target x.thread.thread) x.thread.place e in
    let stays : thread_step script w.shared x ≡ record { shared = w.shared; run = x } = still_over script w.shared x x.thread.stage (over_is x.thread.stage over) in
    ap (λ (s : ThreadStep). thread_goes w t k s) stays ∙ ap (λ threads. record w { threads = threads }) (same_threads x)
  where
    same_threads : (x : RunAt) → set w.threads t (set (threads_at w t) k (run_at w t k)) ≡ w.threads
    same_threads x =
        ap (λ (row : List RunAt). set w.threads t row) (set_same (threads_at w t) k (run_at w t k) no_run refl)
        ∙ set_same w.threads t (threads_at w t) [] refl

-- two tests that pass together are the same
pub same_test : (a b : Bool) → (a ≡ true → b ≡ true) → (b ≡ true → a ≡ true) → a ≡ b
same_test true true f g = refl
same_test true false f g = sym (f refl)
same_test false true f g = g refl
same_test false false f g = refl

-- nothing is at a place exactly if the list ends before it
ends_before : {X : Type 0} (xs : List X) (i : ℕ) → is_none (slice_get xs i) ≡ nat_le (length xs) i
ends_before [] i = sym (grind (arith, nat_tests))
ends_before (x ∷ xs) zero = sym (grind (arith, nat_tests))
ends_before (x ∷ xs) (suc i) = ends_before xs i ∙ same_test (nat_le (length xs) i) (nat_le (length (x ∷ xs)) (suc i))
    (λ e. grind (arith, nat_tests, e)) (λ e. grind (arith, nat_tests, e))

over_finished : (script : Script) (x : RunAt) → IsAtStatement script x.thread → is_over x.thread.stage ≡ is_finished script x.thread
over_finished script x h = h.over ∙ ends_before (statements_of script x.thread.target x.thread.thread) x.thread.place

-- one thread, and those after it
by_thread : (over ended rest : Bool) (first : ℕ × ℕ) (later : Option (ℕ × ℕ)) → over ≡ ended → rest ≡ is_none later
    → (over && rest) ≡ is_none (if ended then later else Some first)
by_thread over ended rest first later one more =
    subst (λ (o : Bool). (o && rest) ≡ is_none (if ended then later else Some first)) (sym one) (by_end ended)
  where
    by_end : (e : Bool) → (e && rest) ≡ is_none (if e then later else Some first)
    by_end true = more
    by_end false = refl

-- threads of a target
runs_over : (script : Script) (xs : List RunAt) → ((k : ℕ) → k < length xs → IsAtStatement script (slice_index_or xs k no_run).thread)
    → are_over xs ≡ is_none (unfinished_of script xs)
runs_over script [] h = refl
runs_over script (x ∷ xs) h =
    by_thread (is_over x.thread.stage) (is_finished script x.thread) (are_over xs) (x.thread.target, x.thread.thread) (unfinished_of script xs)
    (over_finished script x (h zero (omega arith))) (runs_over script xs (λ k i. h (suc k) (omega (arith, i))))

-- one target, and those after it
by_target : (over rest : Bool) (found later : Option (ℕ × ℕ)) → over ≡ is_none found → rest ≡ is_none later → (over && rest) ≡ is_none (or_else found later)
by_target over rest found later one more = subst (λ (o : Bool). (o && rest) ≡ is_none (or_else found later)) (sym one) (by_first found)
  where
    by_first : (o : Option (ℕ × ℕ)) → (is_none o && rest) ≡ is_none (or_else o later)
    by_first None = more
    by_first (Some first) = refl

-- threads of all targets
targets_over : (script : Script) (xss : List (List RunAt))
    → ((t k : ℕ) → k < length (slice_index_or xss t []) → IsAtStatement script (slice_index_or (slice_index_or xss t []) k no_run).thread)
    → list_all (λ xs. are_over xs) xss ≡ is_none (first_unfinished script xss)
targets_over script [] h = refl
targets_over script (xs ∷ xss) h =
    by_target (are_over xs) (list_all (λ ys. are_over ys) xss) (unfinished_of script xs) (first_unfinished script xss)
    (runs_over script xs (λ k i. h zero k i)) (targets_over script xss (λ t k i. h (suc t) k i))

pub finished_by_stage : (script : Script) (w : WorldAt) → IsRunning script w → all_over w ≡ all_finished script w
finished_by_stage script w h = targets_over script w.threads h.stands
