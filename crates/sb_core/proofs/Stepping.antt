-- Steps of actors that are there lead from one world to another: rounds, passes, the drain, and whole runs do.
use Rattle.std.proofs.Common.{◌≡◌, ◌∙◌, refl, ap, subst, sym, ℕ, zero, suc, ◌<◌, ◌≤◌, true, List, [], ◌∷◌, ◌++◌, length, length-set, replicate, slice_get, arith, Bool}
use Rattle.sb_core.proofs.Folding.{steps_append, chosen}
use Rattle.sb_core.proofs.Existence.{as_many}
use Rattle.sb_core.proofs.Numbers.{is_below, itself}
use Rattle.std.proofs.lemmas.List.Folds.{list_all-append}
use Rattle.sb_core.proofs.Names.{Actor, all_finished, and_from, and_parts, are_there, CanRun, drained, drained_by, first_actors, first_threads, is_settled, is_step_there, is_there, IsRunning, IsWorld, list_all, most_passes, one_pass, pass_below, played, Policy, round, round_actors, rounds, Schedule, scheduled, Script, start_world, step, steps, target_actors, TargetScript, Thread, thread_count, Worker, WorldAt}

-- the actors of a round are there
pub all_append : (p : Actor → Bool) (xs ys : List Actor) → list_all p xs ≡ true → list_all p ys ≡ true → list_all p (xs ++ ys) ≡ true
all_append p xs ys h k = list_all-append p xs ys ∙ and_from (list_all p xs) (list_all p ys) h k

pub single : (p : Actor → Bool) (x : Actor) → p x ≡ true → list_all p (x ∷ []) ≡ true
single p x e = rw e refl

threads_there : (targets : List TargetScript) (t n : ℕ) → n ≤ thread_count (slice_get targets t) → are_there targets (first_threads t n) ≡ true
threads_there targets t zero l = refl
threads_there targets t (suc n) l =
    all_append (is_there targets) (first_threads t n) (Thread t n ∷ []) (threads_there targets t n (omega (arith, l)))
    (single (is_there targets) (Thread t n) (is_below n (thread_count (slice_get targets t)) (omega (arith, l))))

target_there : (targets : List TargetScript) (t : ℕ) → t < length targets → are_there targets (target_actors targets t) ≡ true
target_there targets t l =
    let first : is_there targets (Worker t) ≡ true = is_below t (length targets) l in
    let rest = threads_there targets t (thread_count (slice_get targets t)) (itself (thread_count (slice_get targets t))) in
    rw (first, rest) refl

actors_there : (targets : List TargetScript) (n : ℕ) → n ≤ length targets → are_there targets (first_actors targets n) ≡ true
actors_there targets zero l = refl
actors_there targets (suc n) l =
    all_append (is_there targets) (first_actors targets n) (target_actors targets n) (actors_there targets n (omega (arith, l))) (target_there targets n (omega (arith, l)))

pub rounds_there : (targets : List TargetScript) → are_there targets (round_actors targets) ≡ true
rounds_there targets = let within : length targets ≤ length targets = omega arith in actors_there targets (length targets) within

-- and those of a schedule
replicated : (targets : List TargetScript) (actor : Actor) (n : ℕ) → is_there targets actor ≡ true → are_there targets (replicate n actor) ≡ true
replicated targets actor zero e = refl
replicated targets actor (suc n) e = let rest = replicated targets actor n e in rw (e, rest) refl

pub scheduled_there : (targets : List TargetScript) (entries : List (Actor × ℕ)) → list_all (is_step_there targets) entries ≡ true → are_there targets (scheduled entries) ≡ true
scheduled_there targets [] e = refl
scheduled_there targets (entry ∷ entries) e =
    let parts = and_parts (is_step_there targets entry) (list_all (is_step_there targets) entries) e in
    all_append (is_there targets) (replicate entry.1 entry.0) (scheduled entries) (replicated targets entry.0 entry.1 parts.0) (scheduled_there targets entries parts.1)

-- a pass keeps the number of workers
pub pass_workers : (n : ℕ) (w : WorldAt) → length (pass_below n w).workers ≡ length w.workers
pass_workers zero w = refl
pass_workers (suc n) w = length-set (pass_below n w).workers n _ ∙ pass_workers n w

-- some actors that are there make their steps, in turn
pub record Leads (script : Script) (w v : WorldAt) : Type 0 where
  pub actors : List Actor
  pub there : are_there script.targets actors ≡ true
  pub reached : v ≡ steps script actors w

-- what each step keeps holds if they lead
pub kept_along : (script : Script) (P : WorldAt → Type 0) → ((w : WorldAt) (actor : Actor) → P w → is_there script.targets actor ≡ true → P (step script w actor))
    → (w v : WorldAt) → Leads script w v → P w → P v
kept_along script P each w v leads h = subst P (sym leads.reached) (along leads.actors w h leads.there)
  where
    along : (actors : List Actor) (w : WorldAt) → P w → are_there script.targets actors ≡ true → P (steps script actors w)
    along [] w h e = h
    along (actor ∷ actors) w h e =
        let parts = and_parts (is_there script.targets actor) (are_there script.targets actors) e in
        along actors (step script w actor) (each w actor h parts.0) parts.1

module _ (script : Script) where
  pub leads_by : (actors : List Actor) (w : WorldAt) → are_there script.targets actors ≡ true → Leads script w (steps script actors w)
  leads_by actors w e = record { actors = actors; there = e; reached = refl }

  pub leads_on : (u v w : WorldAt) → Leads script u v → Leads script v w → Leads script u w
  leads_on u v w first later = record {
    actors = first.actors ++ later.actors;
    there = all_append (is_there script.targets) first.actors later.actors first.there later.there;
    reached = later.reached ∙ (ap (steps script later.actors) first.reached ∙ sym (steps_append script first.actors later.actors u));
  }

  pub leads_rounds : (n : ℕ) (w : WorldAt) → Leads script w (rounds n script w)
  leads_rounds zero w = leads_by [] w refl
  leads_rounds (suc n) w =
      chosen (Leads script w) (all_finished script w) w (rounds n script (round script w)) (λ e. leads_by [] w refl)
      (λ e. leads_on w (round script w) (rounds n script (round script w)) (leads_by (round_actors script.targets) w (rounds_there script.targets)) (leads_rounds n (round script w)))

  pub leads_pass : (n : ℕ) (w : WorldAt) → n ≤ length script.targets → Leads script w (pass_below n w)
  leads_pass zero w l = leads_by [] w refl
  leads_pass (suc n) w l =
      leads_on w (pass_below n w) (pass_below (suc n) w) (leads_pass n w (omega (arith, l)))
      (leads_by (Worker n ∷ []) (pass_below n w) (single (is_there script.targets) (Worker n) (is_below n (length script.targets) (omega (arith, l)))))

  leads_passes : (n : ℕ) (w : WorldAt) → length w.workers ≤ length script.targets → Leads script w (drained_by n w)
  leads_passes zero w l = leads_by [] w refl
  leads_passes (suc n) w l =
      let same = pass_workers (length w.workers) w in
      let few : length (one_pass w).workers ≤ length script.targets = omega (arith, same, l) in
      chosen (Leads script w) (is_settled w) w (drained_by n (one_pass w)) (λ e. leads_by [] w refl)
      (λ e. leads_on w (one_pass w) (drained_by n (one_pass w)) (leads_pass (length w.workers) w l) (leads_passes n (one_pass w) few))

  -- the drain
  pub leads_drain : (w : WorldAt) → IsWorld w → IsRunning script w → Leads script w (drained w)
  leads_drain w kept runs =
      let count = as_many script w kept runs in
      leads_passes most_passes w (omega (arith, count))

  -- a run
  pub leads_run : (policies : List Policy) (schedule : Schedule) → CanRun policies script schedule → Leads script (start_world policies script) (played policies script schedule)
  leads_run policies schedule can =
      let start = start_world policies script in
      let first = steps script (scheduled schedule.steps) start in
      leads_on start first (played policies script schedule) (leads_by (scheduled schedule.steps) start (scheduled_there script.targets schedule.steps can.there))
      (leads_rounds schedule.rounds first)
