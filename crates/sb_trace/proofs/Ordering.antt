-- The order of a run's steps, written as a schedule, is that run.
use Rattle.std.proofs.Common.{◌≡◌, ◌∙◌, ℕ, zero, suc, ◌+◌, Bool, true, false, cond, List, [], ◌∷◌, ◌++◌, length, length-set, map, replicate, set, get_or, Option, None, Some, refl, ap, sym, subst, arith, append_assoc, append-nil}
use Rattle.std.proofs.lemmas.Bool.{false≢true, and_parts, and_from}
use Rattle.std.proofs.lemmas.List.{set-get_or}
use Rattle.std.specs.List.{list_all}
use Rattle.sb_actor.specs.Places.{statement_at}
use Rattle.sb_actor.specs.ThreadStages.{ThreadStage}
use Rattle.sb_actor.specs.ThreadStages as thread
use Rattle.sb_actor.specs.ThreadTable.{stray_row, thread_row}
use Rattle.sb_actor.specs.WorkerStages.{WorkerAt, WorkerStage}
use Rattle.sb_actor.specs.WorkerStages as worker
use Rattle.sb_actor.specs.WorkerTable.{worker_row}
use Rattle.sb_core.specs.Actors.{are_there, in_turn, round_actors, scheduled, worker_actors}
use Rattle.sb_core.specs.Changes.{plan_of}
use Rattle.sb_core.specs.Drains.{drained, drained_by, is_settled, most_passes, one_pass, pass_below}
use Rattle.sb_core.specs.Kept.{IsRunning, IsWorld}
use Rattle.sb_core.specs.Laws.{DrainsSettle, OrdersAreSchedules, RoundsAreSteps, StartsKeep, StepsKeep, WorkersAreThere}
use Rattle.sb_core.specs.Reports.{report_of, results_of}
use Rattle.sb_core.specs.Runs.{ended, ended_from, played, schedule_of}
use Rattle.sb_core.specs.Shared.{SharedAt, on_word}
use Rattle.sb_core.specs.Threads.{RunAt, ThreadStep, first_unfinished, goes_on, no_run, thread_step}
use Rattle.sb_core.specs.Worlds.{WorldAt, all_finished, round, rounds, run_at, start_world, step, steps, thread_goes, threads_at, worker_at, worker_step}
use Rattle.sb_core.specs.declared.runs.Ran.{Ran}
use Rattle.sb_trace.specs.Steps.{OrdersAreRuns, StepAt, actors_of_run, drain_actors, is_idle, order_of_run, passes_made, rounds_made, steps_made}
use Rattle.sb_statements.specs.Actors.{is_step_there, is_there}
use Rattle.sb_statements.specs.declared.scripts.TargetScript.{TargetScript}
use Rattle.sb_statements.specs.declared.schedules.Actor.{Actor}
use Rattle.sb_statements.specs.declared.schedules.Actor.TheVariants.{Worker, Thread}
use Rattle.sb_statements.specs.declared.scripts.Script.{Script}
use Rattle.sb_statements.specs.declared.statements.Statement.{Statement}
use Rattle.sb_statements.specs.declared.statements.Statement.TheVariants as statement

-- an element set to what it was
set_same : {X : Type 0} (xs : List X) (i : ℕ) (x d : X) → x ≡ get_or xs i d → set xs i x ≡ xs
set_same xs i x d e = subst (λ y. set xs i y ≡ xs) (sym e) (set-get_or xs i d)

-- steps in turn, and others after them
steps_append : (script : Script) (first later : List Actor) (w : WorldAt) → steps script (first ++ later) w ≡ steps script later (steps script first w)
steps_append script [] later w = refl
steps_append script (actor ∷ first) later w = steps_append script first later (step script w actor)

-- a test that holds of two lists holds of both, one after the other
all_append : (p : Actor → Bool) (xs ys : List Actor) → list_all p xs ≡ true → list_all p ys ≡ true → list_all p (xs ++ ys) ≡ true
all_append p [] ys h k = k
all_append p (x ∷ xs) ys h k =
    let parts = and_parts (p x) (list_all p xs) h in
    and_from (p x) (list_all p (xs ++ ys)) parts.0 (all_append p xs ys parts.1 k)

all_again : (p : Actor → Bool) (n : ℕ) (x : Actor) → p x ≡ true → list_all p (replicate n x) ≡ true
all_again p zero x h = refl
all_again p (suc n) x h = and_from (p x) (list_all p (replicate n x)) h (all_again p n x h)

-- the actors of a schedule are there
scheduled_there : (targets : List TargetScript) (entries : List (Actor × ℕ)) → list_all (is_step_there targets) entries ≡ true → are_there targets (scheduled entries) ≡ true
scheduled_there targets [] e = refl
scheduled_there targets (entry ∷ entries) e =
    let parts = and_parts (is_step_there targets entry) (list_all (is_step_there targets) entries) e in
    all_append (is_there targets) (replicate entry.1 entry.0) (scheduled entries) (all_again (is_there targets) entry.1 entry.0 parts.0)
    (scheduled_there targets entries parts.1)

-- so are actors in turn
turns_there : (targets : List TargetScript) (actors : List Actor) (n : ℕ) → are_there targets actors ≡ true → are_there targets (in_turn n actors) ≡ true
turns_there targets actors zero h = refl
turns_there targets actors (suc n) h = all_append (is_there targets) (in_turn n actors) actors (turns_there targets actors n h) h

-- a drain leaves the threads
pass_threads : (n : ℕ) (w : WorldAt) → (pass_below n w).threads ≡ w.threads
pass_threads zero w = refl
pass_threads (suc n) w = pass_threads n w

-- what holds of both worlds holds of the one that is chosen
chosen : (P : WorldAt → Type 0) (b : Bool) (u v : WorldAt) → P u → P v → P (elim b [ true ↦ u | false ↦ v ])
chosen P true u v x y = x
chosen P false u v x y = y

threads_by : (n : ℕ) (w : WorldAt) → (drained_by n w).threads ≡ w.threads
threads_by zero w = refl
threads_by (suc n) w =
    chosen (λ v. v.threads ≡ w.threads) (is_settled w) w (drained_by n (one_pass w)) refl (threads_by n (one_pass w) ∙ pass_threads (length w.workers) w)

drained_threads : (w : WorldAt) → (drained w).threads ≡ w.threads
drained_threads w = threads_by most_passes w

-- a settled world is drained
drained_done : (n : ℕ) (w : WorldAt) → is_settled w ≡ true → drained_by n w ≡ w
drained_done zero w h = refl
drained_done (suc n) w h = rw (h, drained_by) refl

-- no step of a worker is idle
never_idle : (x : WorkerAt) (stage : WorkerStage) → is_idle (worker_row x stage).step ≡ false
never_idle x worker.Look = refl
never_idle x _ = refl

-- what a row without a step leaves: the thread as it was
abbrev left_by : SharedAt → RunAt → ThreadStep
left_by s x = record { shared = s; run = record { thread = x.thread; results = x.results ++ [] } }

-- an idle row of a statement
idle_statement : (script : Script) (s : SharedAt) (x : RunAt) (loads most : ℕ) (found : Option Statement) → is_idle (stray_row script x.thread loads most found).step ≡ true
    → goes_on x (on_word s (stray_row script x.thread loads most found).step).shared
    ((stray_row script x.thread loads most found).next (on_word s (stray_row script x.thread loads most found).step).seen) ≡ left_by s x
idle_statement script s x loads most None e = refl
idle_statement script s x loads most (Some (statement.Call tag args)) e = refl
idle_statement script s x loads most (Some _) e = absurd (cc)

-- an idle row
idle_row : (script : Script) (s : SharedAt) (x : RunAt) (stage : ThreadStage) → is_idle (thread_row script x.thread stage).step ≡ true
    → goes_on x (on_word s (thread_row script x.thread stage).step).shared
    ((thread_row script x.thread stage).next (on_word s (thread_row script x.thread stage).step).seen) ≡ left_by s x
idle_row script s x thread.Over e = refl
idle_row script s x (thread.Stray loads most) e =
    idle_statement script s x loads most (statement_at script x.thread.target x.thread.thread x.thread.place) e
idle_row script s x _ e = absurd (cc)

idle_thread : (script : Script) (s : SharedAt) (x : RunAt) → is_idle (thread_row script x.thread x.thread.stage).step ≡ true
    → thread_step script s x ≡ record { shared = s; run = x }
idle_thread script s x e =
    idle_row script s x x.thread.stage e ∙ ap (λ r. record { shared = s; run = record { thread = x.thread; results = r } }) (append-nil x.results)

-- an idle step changes nothing
idle_stays : (script : Script) (w : WorldAt) (actor : Actor) → is_idle (plan_of script w actor) ≡ true → step script w actor ≡ w
idle_stays script w (Worker t) e = absurd (false≢true (sym (never_idle (worker_at w t) (worker_at w t).stage) ∙ e))
idle_stays script w (Thread t k) e =
    ap (λ (s : ThreadStep). thread_goes w t k s) (idle_thread script w.shared (run_at w t k) e)
    ∙ ap (λ threads. record w { threads = threads })
    (ap (λ (row : List RunAt). set w.threads t row) (set_same (threads_at w t) k (run_at w t k) no_run refl)
    ∙ set_same w.threads t (threads_at w t) [] refl)

-- who made these steps
abbrev makers_of : List StepAt → List Actor
makers_of made = map (λ s. s.actor) made

-- without idle steps the world is the same
same_world : (script : Script) (actors : List Actor) (w : WorldAt) (n : ℕ) → steps script (makers_of (steps_made script actors w n)) w ≡ steps script actors w
same_world script [] w n = refl
same_world script (actor ∷ more) w n =
    by_test (same_world script more (step script w actor)) (is_idle (plan_of script w actor)) refl
  where
    by_test : ((k : ℕ) → steps script (makers_of (steps_made script more (step script w actor) k)) (step script w actor) ≡ steps script more (step script w actor))
        → (b : Bool) → is_idle (plan_of script w actor) ≡ b
        → steps script (makers_of (cond b (steps_made script more (step script w actor) n)
        (record { number = n; actor = actor; before = w } ∷ steps_made script more (step script w actor) (n + 1)))) w
        ≡ steps script more (step script w actor)
    by_test later true e =
        ap (steps script (makers_of (steps_made script more (step script w actor) n))) (sym (idle_stays script w actor e))
        ∙ later n
    by_test later false e = later (n + 1)

-- and its actors are there
made_there : (script : Script) (actors : List Actor) (w : WorldAt) (n : ℕ) → are_there script.targets actors ≡ true
    → are_there script.targets (makers_of (steps_made script actors w n)) ≡ true
made_there script [] w n h = refl
made_there script (actor ∷ more) w n h =
    let parts = and_parts (is_there script.targets actor) (are_there script.targets more) h in
    by_test parts.0 (λ k. made_there script more (step script w actor) k parts.1) (is_idle (plan_of script w actor))
  where
    by_test : is_there script.targets actor ≡ true
        → ((k : ℕ) → are_there script.targets (makers_of (steps_made script more (step script w actor) k)) ≡ true)
        → (b : Bool)
        → are_there script.targets (makers_of (cond b (steps_made script more (step script w actor) n)
        (record { number = n; actor = actor; before = w } ∷ steps_made script more (step script w actor) (n + 1)))) ≡ true
    by_test here later true = later n
    by_test here later false =
        and_from (is_there script.targets actor) (are_there script.targets (makers_of (steps_made script more (step script w actor) (n + 1)))) here (later (n + 1))

-- actors in turn, the first time apart
front_turn : (n : ℕ) (actors : List Actor) → in_turn (suc n) actors ≡ actors ++ in_turn n actors
front_turn zero actors = sym (append-nil actors)
front_turn (suc n) actors = ap (λ l. l ++ actors) (front_turn n actors) ∙ append_assoc actors (in_turn n actors) actors

-- rounds, as steps in turn
rounds_are : (n : ℕ) (script : Script) (w : WorldAt) → rounds n script w ≡ steps script (in_turn (rounds_made n script w) (round_actors script.targets)) w
rounds_are zero script w = refl
rounds_are (suc n) script w = by_test (rounds_are n script (round script w)) (all_finished script w)
  where
    later : ℕ
    later = rounds_made n script (round script w)

    by_test : rounds n script (round script w) ≡ steps script (in_turn later (round_actors script.targets)) (round script w)
        → (b : Bool) → (elim b [ true ↦ w | false ↦ rounds n script (round script w) ])
        ≡ steps script (in_turn (elim b [ true ↦ 0 | false ↦ suc later ]) (round_actors script.targets)) w
    by_test more true = refl
    by_test more false =
        more
        ∙ sym (steps_append script (round_actors script.targets) (in_turn later (round_actors script.targets)) w)
        ∙ ap (λ actors. steps script actors w) (sym (front_turn later (round_actors script.targets)))

-- a pass, as steps
pass_steps : (script : Script) (n : ℕ) (w : WorldAt) → pass_below n w ≡ steps script (worker_actors n) w
pass_steps script zero w = refl
pass_steps script (suc n) w = ap (λ (v : WorldAt). worker_step v n) (pass_steps script n w) ∙ sym (steps_append script (worker_actors n) (Worker n ∷ []) w)

pass_workers : (n : ℕ) (w : WorldAt) → length (pass_below n w).workers ≡ length w.workers
pass_workers zero w = refl
pass_workers (suc n) w = length-set (pass_below n w).workers n _ ∙ pass_workers n w

-- the drain, as passes in turn
passes_are : (script : Script) (n : ℕ) (w : WorldAt) → drained_by n w ≡ steps script (in_turn (passes_made n w) (worker_actors (length w.workers))) w
passes_are script zero w = refl
passes_are script (suc n) w = by_test (passes_are script n (one_pass w)) (is_settled w)
  where
    later : ℕ
    later = passes_made n (one_pass w)

    actors : List Actor
    actors = worker_actors (length w.workers)

    by_test : drained_by n (one_pass w) ≡ steps script (in_turn later (worker_actors (length (one_pass w).workers))) (one_pass w)
        → (b : Bool) → (elim b [ true ↦ w | false ↦ drained_by n (one_pass w) ]) ≡ steps script (in_turn (elim b [ true ↦ 0 | false ↦ suc later ]) actors) w
    by_test more true = refl
    by_test more false =
        more
        ∙ ap (λ k. steps script (in_turn later (worker_actors k)) (one_pass w)) (pass_workers (length w.workers) w)
        ∙ ap (steps script (in_turn later actors)) (pass_steps script (length w.workers) w)
        ∙ sym (steps_append script actors (in_turn later actors) w)
        ∙ ap (λ l. steps script l w) (sym (front_turn later actors))

-- what each world keeps of its script
abbrev Keeps : Script → WorldAt → Type 0
Keeps script w = IsWorld w × IsRunning script w

kept_by : StepsKeep → (script : Script) (actors : List Actor) (w : WorldAt) → Keeps script w → are_there script.targets actors ≡ true → Keeps script (steps script actors w)
kept_by law script [] w h e = h
kept_by law script (actor ∷ actors) w h e =
    let parts = and_parts (is_there script.targets actor) (are_there script.targets actors) e in
    kept_by law script actors (step script w actor) (law script w actor h.0 h.1 parts.0) parts.1

-- the end of a run without an unfinished thread
abbrev end_of : WorldAt → List (List RunAt) → Ran
end_of w threads = record { report = report_of w.shared (results_of threads); unfinished = None }

-- the end of a drained world is that of the world, if it has no unfinished thread
drained_end : (script : Script) (w : WorldAt) → is_settled (drained w) ≡ true → first_unfinished script w.threads ≡ None
    → ended_from script (drained w) ≡ ended w None
drained_end script w settled none =
    ap (ended (drained w)) (ap (first_unfinished script) (drained_threads w) ∙ none)
    ∙ ap (λ (v : WorldAt). end_of v (drained w).threads) (drained_done most_passes (drained w) settled)
    ∙ ap (end_of (drained w)) (drained_threads w)

-- what follows the rounds of a run: its drain, if no thread is unfinished
drain_ends : (script : Script) (w : WorldAt) (left : Option (ℕ × ℕ)) → first_unfinished script w.threads ≡ left → is_settled (drained w) ≡ true
    → ended_from script (steps script (drain_actors w left) w) ≡ ended w left
drain_ends script w None e settled = ap (ended_from script) (sym (passes_are script most_passes w)) ∙ drained_end script w settled e
drain_ends script w (Some thread) e settled = ap (ended w) e

drain_there : WorkersAreThere → (script : Script) (w : WorldAt) (left : Option (ℕ × ℕ)) → Keeps script w → are_there script.targets (drain_actors w left) ≡ true
drain_there law script w None kept =
    subst (λ l. are_there script.targets l ≡ true) (append-nil (in_turn (passes_made most_passes w) (worker_actors (length w.workers))))
    (law script w (passes_made most_passes w) 0 kept.0 kept.1 (omega arith))
drain_there law script w (Some thread) kept = refl

pub orders_are_runs : StartsKeep → StepsKeep → RoundsAreSteps → WorkersAreThere → OrdersAreSchedules → DrainsSettle → OrdersAreRuns
orders_are_runs starts each in_rounds workers orders settle policies script schedule can =
    let start = start_world policies script in
    let first = scheduled schedule.steps in
    let after_first = steps script first start in
    let turns = in_turn (rounds_made schedule.rounds script after_first) (round_actors script.targets) in
    let w = played policies script schedule in
    let left = first_unfinished script w.threads in
    let drain = drain_actors w left in
    let actors = actors_of_run policies script schedule in
    let order = order_of_run policies script schedule in
    let first_there : are_there script.targets first ≡ true = scheduled_there script.targets schedule.steps can.there in
    let turns_are_there : are_there script.targets turns ≡ true =
    turns_there script.targets (round_actors script.targets) (rounds_made schedule.rounds script after_first) (in_rounds schedule.rounds script after_first).1 in
    let is_played : steps script turns after_first ≡ w = sym (rounds_are schedule.rounds script after_first) in
    let kept_first = kept_by each script first start (starts policies script can.ready) first_there in
    let kept : Keeps script w = subst (Keeps script) is_played (kept_by each script turns after_first kept_first turns_are_there) in
    let there : are_there script.targets actors ≡ true =
    all_append (is_there script.targets) first (turns ++ drain) first_there
    (all_append (is_there script.targets) turns drain turns_are_there (drain_there workers script w left kept)) in
    let whole : steps script actors start ≡ steps script drain w =
    steps_append script first (turns ++ drain) start ∙ steps_append script turns drain after_first ∙ ap (steps script drain) is_played in
    let by_order : steps script (scheduled (schedule_of order).steps) start ≡ steps script drain w =
    ap (λ l. steps script l start) (orders order) ∙ same_world script actors start 1 ∙ whole in (
      made_there script actors start 1 there,
      ap (ended_from script) by_order ∙ drain_ends script w left refl (settle w kept.0),
    )
