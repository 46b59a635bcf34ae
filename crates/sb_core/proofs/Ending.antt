-- Where a run by some order of steps ends: the report of `finish` is that of a run by a schedule.
use Rattle.std.proofs.Common.{◌≡◌, ◌∙◌, refl, ap, subst, sym, ℕ, zero, suc, ◌*◌, ◌<◌, Bool, true, false, ◌&&◌, List, [], ◌∷◌, map, length, Option, None, Some, arith, ◌≤◌, get_or}
use Rattle.sb_core.proofs.Names.{Actor, AreAllResults, CanFinish, drained, drained_by, EndsAreRuns, EndsCanFinish, FinishedRunsAreWhole, first_unfinished, get_or-map, has_turn, History, is_holder, is_settled, is_sound, is_step_there, is_there, IsOfScript, IsSoundStage, IsWorkerOf, IsWorld, length-map, list_all, Look, most_passes, nat_tests, one_pass, pass_below, ran, report_of, results_of, RunAt, schedule_of, scheduled, Script, SharedAt, SoundStatements, SoundTargets, start_world, steps, StmtResult, TargetScript, worker_at, worker_step, WorkerAt, WorkerStage, world_of, WorldAt}
use Rattle.sb_core.specs.Runs.{ended}
use Rattle.sb_core.proofs.Belonging.{of_runs}
use Rattle.sb_core.proofs.Folding.{orders_are_schedules}
use Rattle.sb_core.proofs.Existence.{as_many, targets_there, channels_from, wanted_at}
use Rattle.sb_core.proofs.RunLaws.{sized_all}
use Rattle.sb_core.proofs.Bounds.{few_targets, some_channels}
use Rattle.sb_core.proofs.Numbers.{none_some, least}

-- the world without its threads
abbrev bare : WorldAt → WorldAt
bare w = record w { threads = [] }

-- workers do not look at threads
pass_bare : (n : ℕ) (w : WorldAt) → pass_below n (bare w) ≡ bare (pass_below n w)
pass_bare zero w = refl
pass_bare (suc n) w = ap (λ z. worker_step z n) (pass_bare n w)

drained_bare : (n : ℕ) (w : WorldAt) → drained_by n (bare w) ≡ bare (drained_by n w)
drained_bare zero w = refl
drained_bare (suc n) w = by (is_settled w) refl (drained_bare n (one_pass w))
  where
    by : (b : Bool) → is_settled w ≡ b → drained_by n (bare (one_pass w)) ≡ bare (drained_by n (one_pass w)) → drained_by (suc n) (bare w) ≡ bare (drained_by (suc n) w)
    by true e more = rw (e, drained_by) refl
    by false e more = rw (e, drained_by) (ap (drained_by n) (pass_bare (length w.workers) w) ∙ more)

shared_bare : (w : WorldAt) → (drained (bare w)).shared ≡ (drained w).shared
shared_bare w = ap (λ (z : WorldAt). z.shared) (drained_bare most_passes w)

-- the actors of a list are there if those of its schedule are
there_steps : (targets : List TargetScript) (actors : List Actor) → list_all (is_step_there targets) (map (λ a. (a, 1)) actors) ≡ list_all (is_there targets) actors
there_steps targets [] = refl
there_steps targets (a ∷ actors) = ap (λ b. is_there targets a && b) (there_steps targets actors)

pub ends_are_runs : EndsAreRuns
ends_are_runs policies script actors w ready there reached over free =
    let results = results_of w.threads in
    let start = start_world policies script in
    let played : w ≡ steps script (scheduled (map (λ a. (a, 1)) actors)) start = reached ∙ ap (λ l. steps script l start) (sym (orders_are_schedules actors)) in
    let shown : report_of (drained w).shared results ≡ (ran policies script (schedule_of actors)).report =
    ap (λ o. (ended w o).report) (sym over) ∙ ap (λ z. (ended z (first_unfinished script z.threads)).report) played in
    record {
      can = record { ready = ready; there = there_steps script.targets actors ∙ there };
      unfinished = ap (λ z. (ended z (first_unfinished script z.threads)).unfinished) (sym played) ∙ ap (λ o. (ended w o).unfinished) over;
      finishes = ap (λ (o : Option ℕ). report_of (drained (record { shared = record { words = w.shared.words; turn = o; book = w.shared.book }; workers = w.workers; threads = [] })).shared results) (sym free)
          ∙ ap (λ (s : SharedAt). report_of s results) (shared_bare w) ∙ shown;
      drains = shown;
    }

-- if each worker looks, none has the turn
nobody : (script : Script) (w : WorldAt) → IsWorld w → length w.workers ≡ length script.targets
    → ((t : ℕ) → t < length script.targets → (worker_at w t).stage ≡ Look) → (o : Option ℕ) → w.shared.turn ≡ o → o ≡ None
nobody script w kept many looks None e = refl
nobody script w kept many looks (Some t) e =
    let low = kept.holder t e in
    let held : has_turn (worker_at w t).stage ≡ is_holder (Some t) t = (kept.workers t low).turn ∙ ap (λ o. is_holder o t) e in
    let free : has_turn (worker_at w t).stage ≡ false = ap has_turn (looks t (omega (arith, low, many))) in
    absurd (grind (arith, nat_tests, held, free))

pub ends_can_finish : SoundTargets → SoundStatements → FinishedRunsAreWhole → EndsCanFinish
ends_can_finish targets statements whole policies script actors w ready there reached over looks =
    let of : IsOfScript script w = record { policies = policies; actors = actors; ready = ready; there = there; reached = reached } in
    let kept = (of_runs targets statements script w of).0 in
    let runs = (of_runs targets statements script w of).1 in
    let many = as_many script w kept runs in
    let has = targets_there script w kept runs in
    let words = kept.words in
    let free : w.shared.turn ≡ None = nobody script w kept many looks w.shared.turn refl in
    let end = ends_are_runs policies script actors w ready there reached over free in (
      free,
      record {
        sized = sized_all script.targets w.shared.words (words ∙ many) (λ t l. (has t l).sized);
        count = many;
        idle = λ t l.
            let x = kept.workers t l in
            let low : t < length script.targets = omega (arith, l, many) in
            record { its_target = x.its_target; its_channels = x.its_channels ∙ (has t low).channels; within = x.within; looks = looks t low };
        channels = runs.channels;
        policies = kept.policies ∙ many;
        whole = subst (AreAllResults script) (sym (ap (λ r. r.results) end.drains)) (whole policies script (schedule_of actors) end.can end.unfinished).0;
      },
    )

module _ (law : SoundTargets) (script : Script) (words : List (List ℕ)) (workers : List WorkerAt) (book : History) (results : List (List (List StmtResult)))
    (sound : is_sound script ≡ true) (can : CanFinish script words workers book results) where
  abbrev w : WorldAt
  w = world_of words workers book

  worker_of : (t : ℕ) → t < length workers → IsWorkerOf w t (worker_at w t)
  worker_of t l =
      let idle = can.idle t l in
      let count = can.count in
      let few = some_channels law script t sound (omega (arith, count, l)) in
      let many = few.1 in
      let channels = idle.its_channels in
      record {
        its_target = idle.its_target;
        its_channels = idle.its_channels ∙ sym (ap (λ cs. get_or cs t 0) can.channels ∙ channels_from script.targets t);
        within = idle.within;
        few = omega (arith, channels, many);
        sound = subst (λ (s : WorkerStage). IsSoundStage s) (sym idle.looks) tt;
        sized = sym (get_or-map (λ (ws : List ℕ). length ws) words t []) ∙ (ap (λ ns. get_or ns t 0) can.sized ∙ (wanted_at script.targets t ∙ ap (λ z. z * 65) (sym idle.its_channels)));
        turn = ap (λ (s : WorkerStage). has_turn s) idle.looks;
      }

  pub finishing_world : IsWorld w
  finishing_world =
      let count = can.count in
      let targets = few_targets script sound in
      record {
        few = omega (arith, count, targets);
        policies = can.policies ∙ sym can.count;
        channels = ap (λ (cs : List ℕ). length cs) can.channels ∙ (length-map script.targets (λ (target : TargetScript). target.channels) ∙ sym can.count);
        words = sym (length-map words (λ (ws : List ℕ). length ws))
            ∙ (ap (λ (ns : List ℕ). length ns) can.sized ∙ (length-map script.targets (λ (target : TargetScript). target.channels * 65) ∙ sym can.count));
        holder = λ t e. absurd (none_some t e);
        workers = worker_of;
        lists = least (length workers);
        threads = λ t k l. absurd (no_threads t k l);
      }
    where
      no_threads : (t k : ℕ) → k < 0 → ⊥
      no_threads t k l = absurd (omega arith)

-- the same of a world made of equal parts
pub finishing_from : SoundTargets → (script : Script) (words : List (List ℕ)) (workers : List WorkerAt) (book : History) (results : List (List (List StmtResult)))
    → is_sound script ≡ true → CanFinish script words workers book results → (given : List (List ℕ)) (threads : List (List RunAt)) → given ≡ words → threads ≡ []
    → IsWorld (record { shared = record { words = given; turn = None; book = book }; workers = workers; threads = threads })
finishing_from law script words workers book results sound can given threads e f = rw (e, f) (finishing_world law script words workers book results sound can)
