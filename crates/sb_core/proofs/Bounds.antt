-- How many targets, channels and threads a sound script has.
use Rattle.std.proofs.Common.{◌≡◌, refl, sym, subst, ◌<◌, ◌≤◌, ℕ, List, [], ◌∷◌, true, ◌&&◌, length, lit≤, arith, get_or}
use Rattle.std.specs.Prelude.{is_ok, Option, None, Some, slice_get}
use Rattle.sb_core.proofs.Names.{and_parts, are_targets, channels_of, is_judged, is_patience, is_sound, is_start, is_statement, is_target, is_thread, IsReady, list_all, names_differ, nat_le, nat_tests, opened, or_none, Policy, Script, slice_get-get_or, SoundTargets, Statement, statements_of, TargetScript, thread_count, threads_of}
use Rattle.sb_rule.specs.WellMade.{are_well_made}
use Rattle.sb_core.proofs.Sets.{one_of_all}

-- a script that is ready for policies is sound
pub ready_sound : (policies : List Policy) (script : Script) → IsReady policies script → is_sound script ≡ true
ready_sound policies script h =
    let made = are_well_made policies in
    let judged = list_all (is_judged (length policies)) script.targets in
    let all = and_parts (is_sound script && made && judged) (is_ok (opened script.start)) h.ready in
    let some = and_parts (is_sound script && made) judged all.0 in
    (and_parts (is_sound script) made some.0).0

-- the parts of a sound script
pub sound_targets : (script : Script) → is_sound script ≡ true → (length script.targets ≤ 8) × (list_all (is_target script.targets) script.targets ≡ true)
sound_targets script h =
    let few = nat_le (length script.start) 4096 in
    let starts = list_all is_start script.start in
    let each = list_all (is_target script.targets) script.targets in
    let all = and_parts (is_patience script.patience && few && starts) (are_targets script.targets) h in
    let some = and_parts (nat_le (length script.targets) 8 && names_differ script.targets) each all.1 in
    let low = (and_parts (nat_le (length script.targets) 8) (names_differ script.targets) some.0).0 in
    (grind (arith, nat_tests, low), some.1)

pub few_targets : (script : Script) → is_sound script ≡ true → length script.targets ≤ 8
few_targets script h = (sound_targets script h).0

pub some_patience : (script : Script) → is_sound script ≡ true → 0 < script.patience
some_patience script h =
    let few = nat_le (length script.start) 4096 in
    let starts = list_all is_start script.start in
    let all = and_parts (is_patience script.patience && few && starts) (are_targets script.targets) h in
    let some = and_parts (is_patience script.patience && few) starts all.0 in
    let patience = and_parts (is_patience script.patience) few some.0 in
    let low = (and_parts (nat_le 1 script.patience) (nat_le script.patience 1000000) patience.0).0 in
    grind (arith, nat_tests, low)

-- an element before the end is there
pub there : {X : Type 0} (xs : List X) (i : ℕ) → i < length xs → (x : X) × (slice_get xs i ≡ Some x)
there [] i l = absurd (omega arith)
there (y ∷ ys) i l = (get_or (y ∷ ys) i y, slice_get-get_or (y ∷ ys) i y l)

-- a target has 1 to 8 channels
target_channels : (targets : List TargetScript) (target : TargetScript) → is_target targets target ≡ true → (0 < target.channels) × (target.channels ≤ 8)
target_channels targets target h =
    let few = nat_le (length target.threads) 4 in
    let all = and_parts (nat_le 1 target.channels && nat_le target.channels 8 && few) (list_all (is_thread targets) target.threads) h in
    let some = and_parts (nat_le 1 target.channels && nat_le target.channels 8) few all.0 in
    let low = and_parts (nat_le 1 target.channels) (nat_le target.channels 8) some.0 in
    let one = low.0 in
    let eight = low.1 in
    (grind (arith, nat_tests, one), grind (arith, nat_tests, eight))

-- and at most 4 threads
pub target_threads : (targets : List TargetScript) (target : TargetScript) → is_target targets target ≡ true → length target.threads ≤ 4
target_threads targets target h =
    let few = nat_le (length target.threads) 4 in
    let all = and_parts (nat_le 1 target.channels && nat_le target.channels 8 && few) (list_all (is_thread targets) target.threads) h in
    let low = (and_parts (nat_le 1 target.channels && nat_le target.channels 8) few all.0).1 in
    grind (arith, nat_tests, low)

pub some_channels : SoundTargets → (script : Script) (t : ℕ) → is_sound script ≡ true → t < length script.targets
    → (0 < channels_of (slice_get script.targets t)) × (channels_of (slice_get script.targets t) ≤ 8)
some_channels law script t h l =
    let x = there script.targets t l in
    subst (λ o. (0 < channels_of o) × (channels_of o ≤ 8)) (sym x.1) (target_channels script.targets x.0 (law script t x.0 h x.1))

pub few_threads : SoundTargets → (script : Script) (t : ℕ) → is_sound script ≡ true → t < length script.targets → thread_count (slice_get script.targets t) ≤ 4
few_threads law script t h l =
    let x = there script.targets t l in
    subst (λ o. thread_count o ≤ 4) (sym x.1) (target_threads script.targets x.0 (law script t x.0 h x.1))

-- a thread has at most 4,096 statements
module _ (law : SoundTargets) (script : Script) (sound : is_sound script ≡ true) where
  long : (targets : List TargetScript) (target : TargetScript) (k : ℕ) (statements : List Statement) → is_target targets target ≡ true
      → slice_get target.threads k ≡ Some statements → length statements ≤ 4096
  long targets target k statements h e =
      let few = nat_le 1 target.channels && nat_le target.channels 8 && nat_le (length target.threads) 4 in
      let each = (and_parts few (list_all (is_thread targets) target.threads) h).1 in
      let one = one_of_all (is_thread targets) target.threads k statements each e in
      let low = (and_parts (nat_le (length statements) 4096) (list_all (is_statement targets) statements) one).0 in
      grind (arith, nat_tests, low)

  pub few_statements : (t k : ℕ) → length (statements_of script t k) ≤ 4096
  few_statements t k = by_target (slice_get script.targets t) refl
    where
      by_thread : (target : TargetScript) → slice_get script.targets t ≡ Some target → (o : Option (List Statement)) → slice_get target.threads k ≡ o → length (or_none o) ≤ 4096
      by_thread target e None f = lit≤ tt
      by_thread target e (Some statements) f = long script.targets target k statements (law script t target sound e) f

      by_target : (o : Option TargetScript) → slice_get script.targets t ≡ o → length (or_none (slice_get (threads_of o) k)) ≤ 4096
      by_target None e = lit≤ tt
      by_target (Some target) e = by_thread target e (slice_get target.threads k) refl
