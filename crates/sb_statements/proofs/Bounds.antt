-- How many targets, channels and threads a sound script has.
use Rattle.std.proofs.Common.{◌≡◌, refl, sym, subst, ◌<◌, ◌≤◌, ℕ, zero, suc, List, [], ◌∷◌, true, ◌&&◌, length, arith}
use Rattle.std.proofs.lemmas.Bool.{and_parts}
use Rattle.std.proofs.lemmas.Bool.Decides.{nat_tests}
use Rattle.std.specs.Prelude.{nat_le, Some, slice_get}
use Rattle.std.specs.List.{list_all}
use Rattle.sb_statements.specs.Actors.{thread_count}
use Rattle.sb_statements.specs.Soundness.{is_patience, is_start, is_thread, is_target, are_targets, names_differ, is_sound, channels_of}
use Rattle.sb_statements.specs.declared.scripts.Script.{Script}
use Rattle.sb_statements.specs.declared.scripts.TargetScript.{TargetScript}
use Rattle.sb_statements.proofs.SoundLemmas.{sound_targets}

-- a script has at most 8 targets
pub few_targets : (script : Script) → is_sound script ≡ true → length script.targets ≤ 8
few_targets script h =
    let few = nat_le (length script.start) 4096 in
    let starts = list_all is_start script.start in
    let each = list_all (is_target script.targets) script.targets in
    let all = and_parts (is_patience script.patience && few && starts) (are_targets script.targets) h in
    let some = and_parts (nat_le (length script.targets) 8 && names_differ script.targets) each all.1 in
    let low = (and_parts (nat_le (length script.targets) 8) (names_differ script.targets) some.0).0 in
    grind (arith, nat_tests, low)

-- an element before the end is there
there : {X : Type 0} (xs : List X) (i : ℕ) → i < length xs → (x : X) × (slice_get xs i ≡ Some x)
there [] i l = absurd (omega arith)
there (y ∷ ys) zero l = (y, refl)
there (y ∷ ys) (suc i) l = there ys i (omega arith)

-- a target has 1 to 8 channels
target_channels : (targets : List TargetScript) (target : TargetScript) → is_target targets target ≡ true → (0 < target.channels) × (target.channels ≤ 8)
target_channels targets target h =
    let few = nat_le (length target.threads) 4 in
    let all = and_parts (nat_le 1 target.channels && nat_le target.channels 8 && few) (list_all (is_thread targets) target.threads) h in
    let some = and_parts (nat_le 1 target.channels && nat_le target.channels 8) few all.0 in
    let low = and_parts (nat_le 1 target.channels) (nat_le target.channels 8) some.0 in
    let one = low.0 in
    let eight = low.1 in
    (grind (arith, nat_tests, one), grind (arith, nat_tests, eight))

-- and at most 4 threads
target_threads : (targets : List TargetScript) (target : TargetScript) → is_target targets target ≡ true → length target.threads ≤ 4
target_threads targets target h =
    let few = nat_le (length target.threads) 4 in
    let all = and_parts (nat_le 1 target.channels && nat_le target.channels 8 && few) (list_all (is_thread targets) target.threads) h in
    let low = (and_parts (nat_le 1 target.channels && nat_le target.channels 8) few all.0).1 in
    grind (arith, nat_tests, low)

pub some_channels : (script : Script) (t : ℕ) → is_sound script ≡ true → t < length script.targets
    → (0 < channels_of (slice_get script.targets t)) × (channels_of (slice_get script.targets t) ≤ 8)
some_channels script t h l =
    let x = there script.targets t l in
    subst (λ o. (0 < channels_of o) × (channels_of o ≤ 8)) (sym x.1) (target_channels script.targets x.0 (sound_targets script t x.0 h x.1))

pub few_threads : (script : Script) (t : ℕ) → is_sound script ≡ true → t < length script.targets → thread_count (slice_get script.targets t) ≤ 4
few_threads script t h l =
    let x = there script.targets t l in
    subst (λ o. thread_count o ≤ 4) (sym x.1) (target_threads script.targets x.0 (sound_targets script t x.0 h x.1))
