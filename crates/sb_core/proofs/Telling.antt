-- What each thread comes to depends on the values that its own steps found alone.
use Rattle.std.proofs.Common.{◌≡◌, ◌≢◌, ◌∙◌, refl, sym, subst, ap, ℕ, ◌<◌, Bool, true, false, cond, eqb, ◌&&◌, List, [], ◌∷◌, ◌++◌, length, set, get_or, get_or-set_same, append_assoc, arith, eq-eqb, ◌≤◌, ltb, Option, None, Some, slice_get}
use Rattle.std.proofs.lemmas.Bool.{eqb-true}
use Rattle.sb_core.proofs.Names.{Actor, after_values, and_from, and_parts, append-nil, are_there, AreCaused, AreRounds, first_unfinished, found_by, in_turn, is_there, IsCaused, IsRunning, IsWorld, nat_tests, no_run, on_word, option_to_list, played, results_of, results_of_values, ResultsHaveCauses, round_actors, rounds, run_actors, run_at, RunAt, RunsAreCaused, scheduled, Script, SoundStatements, SoundTargets, start_world, step, steps, StmtResult, Thread, thread_after, thread_plan, thread_start, thread_step, ThreadNext, threads_at, ThreadsFollowTheirValues, value_in, ValuesTell, Worker, WorldAt, WorldsAreCaused}
use Rattle.sb_core.proofs.Changing.{other_run, thread_parts}
use Rattle.sb_core.proofs.Running.{step_keeps}
use Rattle.sb_core.proofs.Existence.{listed}
use Rattle.sb_core.specs.Runs.{ended}
use Rattle.sb_core.proofs.Folding.{steps_append}
use Rattle.sb_core.proofs.Beginning.{rounds_are_steps, turns_there}
use Rattle.sb_core.proofs.Numbers.{none_of}
use Rattle.sb_core.proofs.RunLaws.{no_run_past, results_at}
use Rattle.sb_core.proofs.Bounds.{ready_sound}
use Rattle.sb_core.proofs.Starting.{start_run, starts_keep}
use Rattle.sb_core.proofs.Stepping.{all_append, kept_along, leads_by, rounds_there, scheduled_there}

differ : (u j t k : ℕ) → (eqb u t && eqb j k) ≡ false → Thread u j ≡ Thread t k → ⊥
differ u j t k e f =
    let parts = thread_parts u j t k f in
    let both = and_from (eqb u t) (eqb j k) (eq-eqb u t parts.0) (eq-eqb j k parts.1) in
    absurd (cc)

module _ (script : Script) where
  -- thread k of target t in the second world is what these values make of it in the first
  abbrev Told : RunAt → RunAt → List ℕ → Type 0
  Told x y values = (y.thread ≡ after_values script x.thread values) × (y.results ≡ x.results ++ results_of_values script x.thread values)

  -- one step more at the front
  own : ValuesTell → (w : WorldAt) (x z : RunAt) (values : List ℕ) → Told (thread_step script w.shared x).run z values
      → Told x z (value_in (on_word w.shared (thread_plan script x.thread)).seen ∷ values)
  own law w x z values h =
      let seen = (on_word w.shared (thread_plan script x.thread)).seen in
      let same = law script x.thread seen in (
        h.0 ∙ ap (λ (next : ThreadNext). after_values script next.thread values) same,
        h.1
            ∙ (append_assoc x.results (option_to_list (thread_after script x.thread seen).ended) (results_of_values script (thread_after script x.thread seen).thread values)
            ∙ ap (λ (next : ThreadNext). x.results ++ (option_to_list next.ended ++ results_of_values script next.thread values)) same),
      )

  -- the thread that made its step
  made : (w : WorldAt) (t k : ℕ) → k < length (threads_at w t) → run_at (step script w (Thread t k)) t k ≡ (thread_step script w.shared (run_at w t k)).run
  made w t k l =
      let y = (thread_step script w.shared (run_at w t k)).run in
      ap (λ (row : List RunAt). get_or row k no_run) (get_or-set_same w.threads t (set (threads_at w t) k y) [] (listed w.threads t k l))
      ∙ get_or-set_same (threads_at w t) k y no_run l

  -- a step of this thread, or of another one
  by_test : (w : WorldAt) (u j t k : ℕ) (actors : List Actor) → k < length (threads_at w t) → ValuesTell → (b : Bool) → (eqb u t && eqb j k) ≡ b
      → Told (run_at (step script w (Thread u j)) t k) (run_at (steps script actors (step script w (Thread u j))) t k) (found_by script t k actors (step script w (Thread u j)))
      → Told (run_at w t k) (run_at (steps script actors (step script w (Thread u j))) t k)
      (cond b (value_in (on_word w.shared (thread_plan script (run_at w t k).thread)).seen ∷ []) [] ++ found_by script t k actors (step script w (Thread u j)))
  by_test w u j t k actors l law true e h =
      let parts = and_parts (eqb u t) (eqb j k) e in
      let s = eqb-true u t parts.0 in
      let r = eqb-true j k parts.1 in
      let v = step script w (Thread u j) in
      let same : Thread u j ≡ Thread t k = ap (λ (z : ℕ × ℕ). Thread z.0 z.1) (λ q. (s q, r q)) in
      let is : run_at v t k ≡ (thread_step script w.shared (run_at w t k)).run = ap (λ (actor : Actor). run_at (step script w actor) t k) same ∙ made w t k l in
      own law w (run_at w t k) (run_at (steps script actors v) t k) (found_by script t k actors v)
      (subst (λ (x : RunAt). Told x (run_at (steps script actors v) t k) (found_by script t k actors v)) is h)
  by_test w u j t k actors l law false e h =
      let v = step script w (Thread u j) in
      let apart : Thread u j ≢ Thread t k = λ f. differ u j t k e f in
      let is : run_at v t k ≡ run_at w t k = other_run w u j (thread_step script w.shared (run_at w u j)).run t k apart in
      subst (λ (x : RunAt). Told x (run_at (steps script actors v) t k) (found_by script t k actors v)) is h

  along : ValuesTell → SoundStatements → (actors : List Actor) (w : WorldAt) (t k : ℕ) → IsWorld w → IsRunning script w → are_there script.targets actors ≡ true
      → k < length (threads_at w t) → Told (run_at w t k) (run_at (steps script actors w) t k) (found_by script t k actors w)
  along law sound [] w t k kept runs e l = (refl, sym (append-nil (run_at w t k).results))
  along law sound (Worker u ∷ actors) w t k kept runs e l =
      let parts = and_parts (is_there script.targets (Worker u)) (are_there script.targets actors) e in
      let next = step_keeps sound script w (Worker u) kept runs parts.0 in
      along law sound actors (step script w (Worker u)) t k next.0 next.1 parts.1 l
  along law sound (Thread u j ∷ actors) w t k kept runs e l =
      let parts = and_parts (is_there script.targets (Thread u j)) (are_there script.targets actors) e in
      let next = step_keeps sound script w (Thread u j) kept runs parts.0 in
      let before = runs.threads t in
      let after = next.1.threads t in
      by_test w u j t k actors l law (eqb u t && eqb j k) refl
      (along law sound actors (step script w (Thread u j)) t k next.0 next.1 parts.1 (omega (arith, l, before, after)))

pub threads_follow : ValuesTell → SoundStatements → ThreadsFollowTheirValues
threads_follow law sound script actors w t k kept runs e l = along script law sound actors w t k kept runs e l

module _ (law : ValuesTell) (causes : ResultsHaveCauses) (targets : SoundTargets) (statements : SoundStatements) where
  pub worlds_are_caused : WorldsAreCaused
  worlds_are_caused policies script actors ready there t k i r e = by_test (ltb k (length (threads_at start t))) refl
    where
      start : WorldAt
      start = start_world policies script

      end_world : WorldAt
      end_world = steps script actors start

      found : slice_get (run_at end_world t k).results i ≡ Some r
      found = sym (results_at end_world.threads t k i) ∙ e

      keeps : IsWorld start × IsRunning script start
      keeps = starts_keep targets statements policies script ready

      runs : IsRunning script end_world
      runs =
          (kept_along script (λ v. IsWorld v × IsRunning script v) (λ v actor both f. step_keeps statements script v actor both.0 both.1 f) start end_world
          (leads_by script actors start there) keeps).1

      by_test : (b : Bool) → ltb k (length (threads_at start t)) ≡ b → IsCaused script t k (found_by script t k actors start) i r
      by_test true f =
          let here : k < length (threads_at start t) = grind (arith, nat_tests) in
          let told = (threads_follow law statements script actors start t k keeps.0 keeps.1 there here).1 in
          let values = found_by script t k actors start in
          let all : (run_at end_world t k).results ≡ results_of_values script (thread_start script t k) values =
          subst (λ (x : RunAt). (run_at end_world t k).results ≡ x.results ++ results_of_values script x.thread values) (start_run targets statements policies script ready t k here) told in
          causes script t k values i r (ready_sound policies script ready) (ap (λ (l : List StmtResult). slice_get l i) (sym all) ∙ found)
      by_test false f =
          let before = keeps.1.threads t in
          let after = runs.threads t in
          let past : length (threads_at start t) ≤ k = grind (arith, nat_tests) in
          absurd (none_of i r (ap (λ (x : RunAt). slice_get x.results i) (sym (no_run_past (threads_at end_world t) k (omega (arith, before, after, past)))) ∙ found))

  pub runs_are_caused : RunsAreCaused
  runs_are_caused policies script schedule can = record {
    whole = made.whole;
    few = made.few;
    is = is;
    caused = by_end (first_unfinished script end_world.threads);
  }
    where
      start : WorldAt
      start = start_world policies script

      end_world : WorldAt
      end_world = played policies script schedule

      made : AreRounds schedule.rounds script (steps script (scheduled schedule.steps) start) (rounds schedule.rounds script (steps script (scheduled schedule.steps) start))
      made = (rounds_are_steps schedule.rounds script (steps script (scheduled schedule.steps) start)).0

      is : end_world ≡ steps script (run_actors script schedule made.whole) start
      is = made.is ∙ sym (steps_append script (scheduled schedule.steps) (in_turn made.whole (round_actors script.targets)) start)

      there : are_there script.targets (run_actors script schedule made.whole) ≡ true
      there =
          all_append (is_there script.targets) (scheduled schedule.steps) (in_turn made.whole (round_actors script.targets)) (scheduled_there script.targets schedule.steps can.there)
          (turns_there script.targets (round_actors script.targets) made.whole (rounds_there script.targets))

      caused : AreCaused policies script (run_actors script schedule made.whole) (results_of end_world.threads)
      caused =
          subst (λ (w : WorldAt). AreCaused policies script (run_actors script schedule made.whole) (results_of w.threads)) (sym is)
          (worlds_are_caused policies script (run_actors script schedule made.whole) can.ready there)

      by_end : (o : Option (ℕ × ℕ)) → AreCaused policies script (run_actors script schedule made.whole) (ended end_world o).report.results
      by_end None = caused
      by_end (Some thread) = caused
