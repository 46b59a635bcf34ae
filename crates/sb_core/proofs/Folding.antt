-- Folds of steps, one step at a time.
use Rattle.std.proofs.Common.{◌≡◌, ℕ, zero, suc, ◌+◌, true, false, List, [], ◌∷◌, replicate, slice_get, refl, sym, ◌∙◌, ◌-◌, ◌<◌, arith, ap, Bool}
use native.Mathlib.Numerals.{unary_clauses}
use Rattle.sb_core.proofs.Names.{Actor, all_finished, drained_by, first_actors, first_threads, is_settled, one_pass, OrdersAreSchedules, pass_below, round, rounds, scheduled, Script, step, steps, StepsAreFolds, target_actors, Thread, thread_count, Worker, worker_step, WorldAt}

-- what holds of both worlds holds of the one that is chosen
pub chosen : (P : WorldAt → Type 0) (b : Bool) (u v : WorldAt) → (b ≡ true → P u) → (b ≡ false → P v) → P (elim b [ true ↦ u | false ↦ v ])
chosen P true u v f g = f refl
chosen P false u v f g = g refl

pub steps_append : StepsAreFolds
steps_append script [] later w = refl
steps_append script (actor ∷ first) later w = steps_append script first later (step script w actor)

pub scheduled_more : (script : Script) (entry : Actor × ℕ) (later : List (Actor × ℕ)) (w : WorldAt)
    → steps script (scheduled (entry ∷ later)) w ≡ steps script (scheduled later) (steps script (replicate entry.1 entry.0) w)
scheduled_more script entry later w = steps_append script (replicate entry.1 entry.0) (scheduled later) w

-- one thread more of a target, and one target more
thread_next : (script : Script) (target n : ℕ) (w : WorldAt)
    → steps script (first_threads target (suc n)) w ≡ step script (steps script (first_threads target n) w) (Thread target n)
thread_next script target n w = steps_append script (first_threads target n) (Thread target n ∷ []) w

pub threads_more : (script : Script) (target n : ℕ) (w : WorldAt)
    → steps script (first_threads target (n + 1)) w ≡ step script (steps script (first_threads target n) w) (Thread target n)
threads_more script target n w = simp unary_clauses (thread_next script target n w)

target_next : (script : Script) (n : ℕ) (w : WorldAt) → steps script (first_actors script.targets (suc n)) w
    ≡ steps script (first_threads n (thread_count (slice_get script.targets n))) (step script (steps script (first_actors script.targets n) w) (Worker n))
target_next script n w = steps_append script (first_actors script.targets n) (target_actors script.targets n) w

pub targets_more : (script : Script) (n : ℕ) (w : WorldAt) → steps script (first_actors script.targets (n + 1)) w
    ≡ steps script (first_threads n (thread_count (slice_get script.targets n))) (step script (steps script (first_actors script.targets n) w) (Worker n))
targets_more script n w = simp unary_clauses (target_next script n w)

pub orders_are_schedules : OrdersAreSchedules
orders_are_schedules [] = refl
orders_are_schedules (actor ∷ actors) = ap (λ rest. actor ∷ rest) (orders_are_schedules actors)

-- finished threads make no more rounds
pub rounds_done : (n : ℕ) (script : Script) (w : WorldAt) → all_finished script w ≡ true → rounds n script w ≡ w
rounds_done zero script w h = refl
rounds_done (suc n) script w h = rw (h, rounds) refl

-- others make one round, and then the others
pub rounds_more : (n m : ℕ) (script : Script) (w : WorldAt) → n ≡ suc m → all_finished script w ≡ false
    → rounds n script w ≡ rounds m script (round script w)
rounds_more n m script w e h = rw e (rw (h, rounds) refl)

-- a settled world makes no more passes
pub drained_done : (n : ℕ) (w : WorldAt) → is_settled w ≡ true → drained_by n w ≡ w
drained_done zero w h = refl
drained_done (suc n) w h = rw (h, drained_by) refl

-- another makes one pass, and then the others
pub drained_more : (n m : ℕ) (w : WorldAt) → n ≡ suc m → is_settled w ≡ false → drained_by n w ≡ drained_by m (one_pass w)
drained_more n m w e h = rw e (rw (h, drained_by) refl)

pass_next : (n : ℕ) (w : WorldAt) → pass_below (suc n) w ≡ worker_step (pass_below n w) n
pass_next n w = refl

pub pass_more : (n : ℕ) (w : WorldAt) → pass_below (n + 1) w ≡ worker_step (pass_below n w) n
pass_more n w = simp unary_clauses (pass_next n w)

-- what is left after one pass gives the same
pub drained_next : (n : ℕ) (w v : WorldAt) → 0 < n → is_settled w ≡ false → v ≡ one_pass w → drained_by (n - 1) v ≡ drained_by n w
drained_next n w v l h e =
    let more : n ≡ suc (n - 1) = omega arith in
    ap (drained_by (n - 1)) e ∙ sym (drained_more n (n - 1) w more h)
