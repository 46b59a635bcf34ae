-- What the drain has done of its passes when memory runs out.
use Rattle.std.proofs.Common.{◌≡◌, ◌∙◌, refl, ap, subst, sym, ℕ, zero, suc, ◌<◌, ◌≤◌, false, [], length, arith, ◌+◌, ◌*◌, List, ◌∷◌, map, get_or, lit≤, ◌⊎◌, inl, inr, true}
use Rattle.std.specs.Prelude.{Result, Ok, Err, OnErr}
use Rattle.sb_core.proofs.Names.{after_passes, drained, drained_by, DrainsKeep, is_settled, IsBeginning, IsOfScript, IsRunning, IsWorld, most_passes, most_results, no_run, one_pass, pass_below, results_of, run_at, RunAt, Script, SoundStatements, SoundTargets, StmtResult, sum_by-cons, threads_at, WorldAt, ℕ_discrete, Actor, all_finished, are_there, BeginningsAreSteps, DrainsAreSteps, in_turn, is_there, round, round_actors, rounds, RoundsAreSteps, steps, TargetScript, Worker, worker_actors, WorkersAreThere}
use Rattle.sb_core.proofs.Belonging.{of_more}
use Rattle.sb_core.proofs.Running.{step_keeps}
use Rattle.sb_core.proofs.Stepping.{Leads, kept_along, leads_by, leads_drain, leads_on, leads_pass, pass_workers, all_append, rounds_there, single}
use Rattle.sb_core.proofs.Existence.{as_many}
use Rattle.sb_book.specs.Reports.{result_count, thread_count as results_in}
use Rattle.sb_core.proofs.Bounds.{few_statements, few_targets, few_threads, ready_sound}
use Rattle.sb_core.proofs.Folding.{chosen, steps_append}
use Rattle.sb_core.proofs.Numbers.{is_below}

-- what is known of a world is known after an error too
pub after_error : {A B X : Type 0} (r : Result A B) → X → OnErr r X
after_error (Ok v) x = tt
after_error (Err e) x = x

-- whole passes over worlds that are not settled
pub record IsPassed (w v : WorldAt) : Type 0 where
  pub passes : ℕ
  pub unsettled : (i : ℕ) → i < passes → is_settled (after_passes i w) ≡ false
  pub is : v ≡ after_passes passes w

pub passed_self : (w : WorldAt) → IsPassed w w
passed_self w = record { passes = 0; unsettled = λ i l. absurd (omega (arith, l)); is = refl }

-- passes keep the number of workers
pub as_before : (n : ℕ) (w : WorldAt) → length (after_passes n w).workers ≡ length w.workers
as_before zero w = refl
as_before (suc n) w = pass_workers (length (after_passes n w).workers) (after_passes n w) ∙ as_before n w

-- before the next pass the world is not settled
module _ (w v : WorldAt) (p : IsPassed w v) (busy : is_settled v ≡ false) where
  unsettled_to : (i : ℕ) → i < suc p.passes → is_settled (after_passes i w) ≡ false
  unsettled_to i l = by_place (ℕ_discrete i p.passes)
    where
      by_place : Dec (i ≡ p.passes) → is_settled (after_passes i w) ≡ false
      by_place (yes e) = ap (λ n. is_settled (after_passes n w)) e ∙ (ap is_settled (sym p.is) ∙ busy)
      by_place (no ne) = p.unsettled i (omega (arith, l, ne))

  pub passed_more : (u : WorldAt) → u ≡ one_pass v → IsPassed w u
  passed_more u e = record { passes = suc p.passes; unsettled = unsettled_to; is = e ∙ ap one_pass p.is }

  pub beginning : (k : ℕ) (u : WorldAt) → k < length v.workers → u ≡ pass_below k v → IsBeginning w u
  beginning k u l e = record {
    passes = p.passes;
    workers = k;
    few = let same = as_before p.passes w in let is = ap (λ (z : WorldAt). length z.workers) p.is in omega (arith, l, same, is);
    unsettled = λ i m. unsettled_to i (omega (arith, m));
    is = e ∙ ap (pass_below k) p.is;
  }

-- steps of actors that are there lead to it
leads_after_passes : (script : Script) (n : ℕ) (w : WorldAt) → length w.workers ≤ length script.targets → Leads script w (after_passes n w) × (length (after_passes n w).workers ≡ length w.workers)
leads_after_passes script zero w l = (leads_by script [] w refl, refl)
leads_after_passes script (suc n) w l =
    let before = leads_after_passes script n w l in
    let same = before.1 in (
      leads_on script w (after_passes n w) (after_passes (suc n) w) before.0 (leads_pass script (length (after_passes n w).workers) (after_passes n w) (omega (arith, same, l))),
      pass_workers (length (after_passes n w).workers) (after_passes n w) ∙ same,
    )

leads_beginning : (script : Script) (w v : WorldAt) → IsWorld w → IsRunning script w → IsBeginning w v → Leads script w v
leads_beginning script w v kept runs b =
    let count = as_many script w kept runs in
    let before = leads_after_passes script b.passes w (omega (arith, count)) in
    let few = b.few in
    let rest : Leads script w (pass_below b.workers (after_passes b.passes w)) =
    leads_on script w (after_passes b.passes w) (pass_below b.workers (after_passes b.passes w)) before.0 (leads_pass script b.workers (after_passes b.passes w) (omega (arith, few, count))) in
    subst (Leads script w) (sym b.is) rest

-- what a world keeps that steps lead to from a world of a script
pub record IsLeft (script : Script) (w v : WorldAt) : Type 0 where
  pub running : IsRunning script v
  pub of_script : IsOfScript script w → IsOfScript script v

left : SoundStatements → (script : Script) (w v : WorldAt) → IsWorld w → IsRunning script w → Leads script w v → IsLeft script w v
left law script w v kept runs leads = record {
  running = (kept_along script (λ z. IsWorld z × IsRunning script z) (λ z actor both e. step_keeps law script z actor both.0 both.1 e) w v leads (kept, runs)).1;
  of_script = of_more script w v leads;
}

-- the drained world, and that of a beginning of the drain
pub left_drained : SoundStatements → (script : Script) (w v : WorldAt) → IsWorld w → IsRunning script w → v ≡ drained w → IsLeft script w v
left_drained law script w v kept runs e = left law script w v kept runs (subst (Leads script w) (sym e) (leads_drain script w kept runs))

pub left_begun : SoundStatements → (script : Script) (w v : WorldAt) → IsWorld w → IsRunning script w → IsBeginning w v → IsLeft script w v
left_begun law script w v kept runs b = left law script w v kept runs (leads_beginning script w v kept runs b)

pass_threads : (n : ℕ) (w : WorldAt) → (pass_below n w).threads ≡ w.threads
pass_threads zero w = refl
pass_threads (suc n) w = pass_threads n w

threads_by : (n : ℕ) (w : WorldAt) → (drained_by n w).threads ≡ w.threads
threads_by zero w = refl
threads_by (suc n) w =
    chosen (λ v. v.threads ≡ w.threads) (is_settled w) w (drained_by n (one_pass w)) (λ e. refl) (λ e. threads_by n (one_pass w) ∙ pass_threads (length w.workers) w)

pub drained_threads : (w : WorldAt) → (drained w).threads ≡ w.threads
drained_threads w = threads_by most_passes w

pub drains_keep : SoundStatements → DrainsKeep
drains_keep law script w kept runs =
    kept_along script (λ v. IsWorld v × IsRunning script v) (λ v actor both e. step_keeps law script v actor both.0 both.1 e) w (drained w) (leads_drain script w kept runs) (kept, runs)

-- sums of lists of this many, each no longer than so much
runs_sum : (runs : List RunAt) → ((k : ℕ) → k < length runs → length (get_or runs k no_run).results ≤ 4096)
    → results_in (map (λ x. x.results) runs) ≤ length runs * 4096
runs_sum [] each = lit≤ tt
runs_sum (x ∷ runs) each =
    let first : length x.results ≤ 4096 = each 0 (omega arith) in
    let rest = runs_sum runs (λ k l. each (suc k) (omega (arith, l))) in
    let more = sum_by-cons (λ (results : List StmtResult). length results) x.results (map (λ (y : RunAt). y.results) runs) in
    let step : length (x ∷ runs) * 4096 ≡ length runs * 4096 + 4096 = omega arith in
    omega (arith, first, rest, more, step)

lists_sum : (threads : List (List RunAt)) → ((t : ℕ) → t < length threads → results_in (map (λ x. x.results) (get_or threads t [])) ≤ 16384)
    → result_count (results_of threads) ≤ length threads * 16384
lists_sum [] each = lit≤ tt
lists_sum (runs ∷ threads) each =
    let first : results_in (map (λ x. x.results) runs) ≤ 16384 = each 0 (omega arith) in
    let rest = lists_sum threads (λ t l. each (suc t) (omega (arith, l))) in
    let more = sum_by-cons results_in (map (λ (x : RunAt). x.results) runs) (results_of threads) in
    let step : length (runs ∷ threads) * 16384 ≡ length threads * 16384 + 16384 = omega arith in
    omega (arith, first, rest, more, step)

-- at most 8 targets of 4 threads of 4,096 results
pub few_results : SoundTargets → (script : Script) (w : WorldAt) → IsWorld w → IsRunning script w → result_count (results_of w.threads) ≤ most_results
few_results law script w kept runs =
    let targets = few_targets script (ready_sound runs.policies script runs.ready) in
    let lists = runs.targets in
    let all = lists_sum w.threads each in
    omega (arith, targets, lists, all)
  where
    one : (t k : ℕ) → k < length (threads_at w t) → length (run_at w t k).results ≤ 4096
    one t k l =
        let counted = (kept.threads t k l).counted in
        let place = (runs.stands t k l).place in
        let long = few_statements law script (ready_sound runs.policies script runs.ready) (run_at w t k).thread.target (run_at w t k).thread.thread in
        omega (arith, counted, place, long)

    each : (t : ℕ) → t < length w.threads → results_in (map (λ x. x.results) (threads_at w t)) ≤ 16384
    each t l =
        let lists = runs.targets in
        let few = few_threads law script t (ready_sound runs.policies script runs.ready) (omega (arith, lists, l)) in
        let count = runs.threads t in
        let sum = runs_sum (threads_at w t) (one t) in
        omega (arith, few, count, sum)

module _ (script : Script) where
  -- a part of a pass, and whole passes
  below_steps : (n : ℕ) (w : WorldAt) → pass_below n w ≡ steps script (worker_actors n) w
  below_steps zero w = refl
  below_steps (suc n) w = ap (λ (v : WorldAt). steps script (Worker n ∷ []) v) (below_steps n w) ∙ sym (steps_append script (worker_actors n) (Worker n ∷ []) w)

  passed_steps : (n : ℕ) (w : WorldAt) → after_passes n w ≡ steps script (in_turn n (worker_actors (length w.workers))) w
  passed_steps zero w = refl
  passed_steps (suc n) w =
      ap (λ (k : ℕ). pass_below k (after_passes n w)) (as_before n w)
      ∙ (below_steps (length w.workers) (after_passes n w)
      ∙ (ap (steps script (worker_actors (length w.workers))) (passed_steps n w)
      ∙ sym (steps_append script (in_turn n (worker_actors (length w.workers))) (worker_actors (length w.workers)) w)))

  -- n passes more, as long as the world is not settled
  passed_on : (n : ℕ) (w v : WorldAt) → IsPassed w v → IsPassed w (drained_by n v)
  passed_on zero w v p = p
  passed_on (suc n) w v p =
      chosen (IsPassed w) (is_settled v) v (drained_by n (one_pass v)) (λ e. p) (λ busy. passed_on n w (one_pass v) (passed_more w v p busy (one_pass v) refl))

  -- whole rounds, with a thread unfinished before each
  record IsRounded (w v : WorldAt) : Type 0 where
    whole : ℕ
    unfinished : (i : ℕ) → i < whole → all_finished script (steps script (in_turn i (round_actors script.targets)) w) ≡ false
    is : v ≡ steps script (in_turn whole (round_actors script.targets)) w

  rounded_more : (w v : WorldAt) (p : IsRounded w v) → all_finished script v ≡ false → (q : IsRounded w (round script v)) × (q.whole ≡ suc p.whole)
  rounded_more w v p busy = (
    record {
      whole = suc p.whole;
      unfinished = λ i l. unfinished_to i l (ℕ_discrete i p.whole);
      is = ap (steps script (round_actors script.targets)) p.is ∙ sym (steps_append script (in_turn p.whole (round_actors script.targets)) (round_actors script.targets) w);
    },
    refl,
  )
    where
      unfinished_to : (i : ℕ) → i < suc p.whole → Dec (i ≡ p.whole) → all_finished script (steps script (in_turn i (round_actors script.targets)) w) ≡ false
      unfinished_to i l (yes e) =
          ap (λ (n : ℕ). all_finished script (steps script (in_turn n (round_actors script.targets)) w)) e ∙ (ap (all_finished script) (sym p.is) ∙ busy)
      unfinished_to i l (no ne) = p.unfinished i (omega (arith, l, ne))

  -- at most `most` rounds in all
  record Rounds (most : ℕ) (w u : WorldAt) : Type 0 where
    rounded : IsRounded w u
    few : rounded.whole ≤ most
    ended : (rounded.whole ≡ most) ⊎ (all_finished script u ≡ true)

  rounded_on : (n most : ℕ) (w v : WorldAt) (p : IsRounded w v) → p.whole + n ≡ most → Rounds most w (rounds n script v)
  rounded_on zero most w v p e = record { rounded = p; few = omega (arith, e); ended = inl (omega (arith, e)) }
  rounded_on (suc n) most w v p e =
      chosen (Rounds most w) (all_finished script v) v (rounds n script (round script v)) (λ f. record { rounded = p; few = omega (arith, e); ended = inr f })
      (λ busy. let q = rounded_more w v p busy in let is = q.1 in rounded_on n most w (round script v) q.0 (omega (arith, is, e)))

pub rounds_are_steps : RoundsAreSteps
rounds_are_steps n script w =
    let r = rounded_on script n n w w (record { whole = 0; unfinished = λ i l. absurd (omega (arith, l)); is = refl }) (omega arith) in
    (record { whole = r.rounded.whole; few = r.few; is = r.rounded.is; unfinished = r.rounded.unfinished; ended = r.ended }, rounds_there script.targets)

pub drains_are_steps : DrainsAreSteps
drains_are_steps script w =
    let p = passed_on script most_passes w w (passed_self w) in
    record {
      passes = p.passes;
      is = p.is ∙ passed_steps script p.passes w;
      unsettled = λ i l. ap is_settled (sym (passed_steps script i w)) ∙ p.unsettled i l;
    }

pub beginnings_are_steps : BeginningsAreSteps
beginnings_are_steps script w v b =
    b.is
    ∙ (below_steps script b.workers (after_passes b.passes w)
    ∙ (ap (steps script (worker_actors b.workers)) (passed_steps script b.passes w)
    ∙ sym (steps_append script (in_turn b.passes (worker_actors (length w.workers))) (worker_actors b.workers) w)))

-- workers are there
below_there : (targets : List TargetScript) (n : ℕ) → n ≤ length targets → are_there targets (worker_actors n) ≡ true
below_there targets zero l = refl
below_there targets (suc n) l =
    all_append (is_there targets) (worker_actors n) (Worker n ∷ []) (below_there targets n (omega (arith, l)))
    (single (is_there targets) (Worker n) (is_below n (length targets) (omega (arith, l))))

pub turns_there : (targets : List TargetScript) (actors : List Actor) (n : ℕ) → are_there targets actors ≡ true → are_there targets (in_turn n actors) ≡ true
turns_there targets actors zero h = refl
turns_there targets actors (suc n) h = all_append (is_there targets) (in_turn n actors) actors (turns_there targets actors n h) h

pub workers_are_there : WorkersAreThere
workers_are_there script w passes workers kept runs l =
    let count = as_many script w kept runs in
    all_append (is_there script.targets) (in_turn passes (worker_actors (length w.workers))) (worker_actors workers)
    (turns_there script.targets (worker_actors (length w.workers)) passes (below_there script.targets (length w.workers) (omega (arith, count))))
    (below_there script.targets workers (omega (arith, l, count)))
