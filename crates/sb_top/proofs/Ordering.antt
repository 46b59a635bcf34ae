-- Each order of steps that is short enough is a replay.
use Rattle.std.proofs.Common.{◌≡◌, ◌∙◌, refl, sym, ap, ℕ, zero, suc, ◌<◌, ◌≤◌, Bool, true, ◌&&◌, List, [], ◌∷◌, ◌++◌, length, map, replicate, Option, None, Some, arith, nat_lt, nat_le, slice_get}
use Rattle.std.specs.List.{list_all}
use Rattle.std.specs.Prelude.{Result, Ok, is_ok}
use Rattle.std.proofs.lemmas.Bool.{and_parts, and_from}
use Rattle.std.proofs.lemmas.Bool.Decides.{nat_tests}
use Rattle.sb_book.specs.Readiness.{is_judged, is_ready}
use Rattle.sb_core.specs.Actors.{are_there, scheduled}
use Rattle.sb_core.specs.Laws.{OrdersAreSchedules}
use Rattle.sb_core.specs.Runs.{ended_from}
use Rattle.sb_core.specs.Worlds.{rounds, start_world, steps}
use Rattle.sb_kernel.specs.Openings.{opened}
use Rattle.sb_rule.specs.WellMade.{are_well_made}
use Rattle.sb_rule.specs.declared.policies.Policy.{Policy}
use Rattle.sb_scripttext.specs.SchedulePrinting.{in_order, is_actor_of_values}
use Rattle.sb_base.specs.Numbers.{is_word32}
use Rattle.sb_scripttext.specs.SchedulePrintingLaws.{OrdersAreRead, OrdersAreShort}
use Rattle.sb_statements.specs.Actors.{is_step_there, is_there, thread_count}
use Rattle.sb_statements.specs.Limits.{most_start_lines, most_targets, most_threads, most_channels}
use Rattle.sb_statements.specs.Soundness.{SoundTargets, are_targets, is_patience, is_sound, is_start, is_target, is_thread, names_differ}
use Rattle.sb_statements.specs.declared.schedules.Actor.{Actor}
use Rattle.sb_statements.specs.declared.schedules.Actor.TheVariants.{Thread, Worker}
use Rattle.sb_statements.specs.declared.schedules.Schedule.{Schedule}
use Rattle.sb_statements.specs.declared.scripts.Script.{Script}
use Rattle.sb_statements.specs.declared.scripts.TargetScript.{TargetScript}
use Rattle.sb_text.specs.Steps.{◌>>=◌}
use Rattle.sb_top.specs.Orders.{OrdersAreReplayed, ThreadedRunsAreReplayed, order_text}
use Rattle.sb_message.specs.declared.text_faults.TextFault.TheVariants as fault
use Rattle.sb_plain.specs.Contents.{FileContent, ShownRefusal, most_bytes, read_as, schedule_if}
use Rattle.sb_plain.specs.Replay.{ended_by, run_end, whole_run}
use Rattle.sb_plain.specs.ScriptEnds.{ends, later_text}
use Rattle.sb_ruletext.specs.Laws.{ReadPoliciesAreWellMade}
use Rattle.sb_scripttext.specs.Readiness.{ReadScriptsAreReady}
use Rattle.sb_plain.proofs.ReadFiles.{short_text}
use Rattle.sb_plain.proofs.Readings.{script_known}
use Rattle.sb_plain.proofs.ScriptEnds.{to_end}

-- a script that is ready is sound
ready_sound : (policies : List Policy) (script : Script) → is_ready policies script ≡ true → is_sound script ≡ true
ready_sound policies script h =
    (and_parts (is_sound script) (are_well_made policies)
    (and_parts (is_sound script && are_well_made policies) (list_all (is_judged (length policies)) script.targets)
    (and_parts (is_sound script && are_well_made policies && list_all (is_judged (length policies)) script.targets) (is_ok (opened script.start)) h).0).0).0

few_targets : (script : Script) → is_sound script ≡ true → length script.targets ≤ 8
few_targets script h =
    let targets = (and_parts (is_patience script.patience && nat_le (length script.start) most_start_lines && list_all is_start script.start) (are_targets script.targets) h).1 in
    let first = (and_parts (nat_le (length script.targets) most_targets && names_differ script.targets) (list_all (is_target script.targets) script.targets) targets).0 in
    let few = (and_parts (nat_le (length script.targets) most_targets) (names_differ script.targets) first).0 in
    grind (arith, nat_tests, few)

few_threads : (targets : List TargetScript) (target : TargetScript) → is_target targets target ≡ true → length target.threads ≤ 4
few_threads targets target h =
    let first = (and_parts (nat_le 1 target.channels && nat_le target.channels most_channels && nat_le (length target.threads) most_threads) (list_all (is_thread targets) target.threads) h).0 in
    let few = (and_parts (nat_le 1 target.channels && nat_le target.channels most_channels) (nat_le (length target.threads) most_threads) first).1 in
    grind (arith, nat_tests, few)

-- the numbers of an actor that is there have 32 bits
below : (a b : ℕ) → nat_lt a b ≡ true → a < b
below a b e = grind (arith, nat_tests)

small : (n : ℕ) → n < 16 → is_word32 n ≡ true
small n l = grind (arith, nat_tests, l)

within : {X : Type 0} (xs : List X) (i : ℕ) (x : X) → slice_get xs i ≡ Some x → i < length xs
within [] i x e = absurd (cc)
within (y ∷ ys) zero x e = omega arith
within (y ∷ ys) (suc i) x e = let l = within ys i x e in omega (arith, l)

actor_small : SoundTargets → (script : Script) → is_sound script ≡ true → (actor : Actor) → is_there script.targets actor ≡ true → is_actor_of_values actor ≡ true
actor_small law script sound (Worker t) h =
    let low = below t (length script.targets) h in
    let few = few_targets script sound in
    small t (omega (arith, low, few))
actor_small law script sound (Thread t k) h = by_target (slice_get script.targets t) refl h
  where
    by_target : (o : Option TargetScript) → slice_get script.targets t ≡ o → nat_lt k (thread_count o) ≡ true → (is_word32 t && is_word32 k) ≡ true
    by_target None e f = let low = below k 0 f in absurd (omega (arith, low))
    by_target (Some target) e f =
        let low = below k (length target.threads) f in
        let few = few_threads script.targets target (law script t target sound e) in
        let there = within script.targets t target e in
        let count = few_targets script sound in
        and_from (is_word32 t) (is_word32 k) (small t (omega (arith, there, count))) (small k (omega (arith, low, few)))

actors_small : SoundTargets → (script : Script) → is_sound script ≡ true → (actors : List Actor) → are_there script.targets actors ≡ true → list_all is_actor_of_values actors ≡ true
actors_small law script sound [] h = refl
actors_small law script sound (actor ∷ actors) h =
    let parts = and_parts (is_there script.targets actor) (are_there script.targets actors) h in
    and_from (is_actor_of_values actor) (list_all is_actor_of_values actors) (actor_small law script sound actor parts.0) (actors_small law script sound actors parts.1)

-- the actors of an order are those of its schedule
entries_there : (targets : List TargetScript) (actors : List Actor) → are_there targets actors ≡ true → list_all (is_step_there targets) (map (λ actor. (actor, 1)) actors) ≡ true
entries_there targets [] h = refl
entries_there targets (actor ∷ actors) h =
    let parts = and_parts (is_there targets actor) (are_there targets actors) h in
    and_from (is_there targets actor) (list_all (is_step_there targets) (map (λ (a : Actor). (a, 1)) actors)) parts.0 (entries_there targets actors parts.1)

-- and those of a schedule are there
replicated : (targets : List TargetScript) (actor : Actor) (n : ℕ) → is_there targets actor ≡ true → are_there targets (replicate n actor) ≡ true
replicated targets actor zero e = refl
replicated targets actor (suc n) e = and_from (is_there targets actor) (are_there targets (replicate n actor)) e (replicated targets actor n e)

all_append : (p : Actor → Bool) (xs ys : List Actor) → list_all p xs ≡ true → list_all p ys ≡ true → list_all p (xs ++ ys) ≡ true
all_append p [] ys h k = k
all_append p (x ∷ xs) ys h k =
    let parts = and_parts (p x) (list_all p xs) h in
    and_from (p x) (list_all p (xs ++ ys)) parts.0 (all_append p xs ys parts.1 k)

scheduled_there : (targets : List TargetScript) (entries : List (Actor × ℕ)) → list_all (is_step_there targets) entries ≡ true → are_there targets (scheduled entries) ≡ true
scheduled_there targets [] e = refl
scheduled_there targets (entry ∷ entries) e =
    let parts = and_parts (is_step_there targets entry) (list_all (is_step_there targets) entries) e in
    all_append (is_there targets) (replicate entry.1 entry.0) (scheduled entries) (replicated targets entry.0 entry.1 parts.0) (scheduled_there targets entries parts.1)

module _ (read : OrdersAreRead) (short : OrdersAreShort) (orders : OrdersAreSchedules) (targets : SoundTargets) (made : ReadPoliciesAreWellMade) (known : ReadScriptsAreReady) where
  abbrev some_text : Result FileContent ShownRefusal → Result (Option FileContent) ShownRefusal
  some_text r = r >>= λ text. Ok (Some text)

  -- the run by an order
  order_run : (policies : List Policy) (script : Script) (actors : List Actor)
      → whole_run policies script (in_order actors 0) ≡ ended_from script (steps script actors (start_world policies script))
  unfolding whole_run
  order_run policies script actors = ap (λ (l : List Actor). ended_from script (steps script l (start_world policies script))) (orders actors)

  pub orders_are_replayed : OrdersAreReplayed
  orders_are_replayed policy file policies script actors hp hs there few =
      let ready = script_known made known policy file policies script hp hs in
      let values = actors_small targets script (ready_sound policies script ready.ready) actors there in
      let size : length (order_text actors) ≤ most_bytes = short actors 0 values few (omega arith) in
      let is = read script.targets actors 0 there values few (omega arith) in
      let text : FileContent = record { which = 3; bytes = order_text actors } in
      let scheduled : schedule_if script (Some text) ≡ Ok (in_order actors 0) = ap (read_as fault.Schedule text) is in
      let third : later_text most_bytes (Some (order_text actors) ∷ []) ≡ Ok (Some text) = ap some_text (short_text most_bytes 3 (order_text actors) size) in
      record {
        short = size;
        meant =
            to_end most_bytes schedule_if (ends run_end) policy file (Some (order_text actors) ∷ []) policies script (Some text) (in_order actors 0) hp hs third
            scheduled;
        can = record { ready = ready; there = entries_there script.targets actors there };
        is = order_run policies script actors;
      }

  -- the run by a schedule without rounds is that by its order
  same_run : (policies : List Policy) (script : Script) (schedule : Schedule) → schedule.rounds ≡ 0
      → whole_run policies script (in_order (scheduled schedule.steps) 0) ≡ whole_run policies script schedule
  unfolding whole_run
  same_run policies script schedule e =
      order_run policies script (scheduled schedule.steps)
      ∙ sym (ap (λ (n : ℕ). ended_from script (rounds n script (steps script (scheduled schedule.steps) (start_world policies script)))) e)

  pub threaded_runs_are_replayed : ThreadedRunsAreReplayed
  threaded_runs_are_replayed policy file policies script order hp hs is few = (
    orders_are_replayed policy file policies script (scheduled order.steps) hp hs (scheduled_there script.targets order.steps is.can.there) few,
    ap (ended_by policies script) (same_run policies script order is.no_rounds),
  )
