-- What is known of a sound script.
use Rattle.std.proofs.Common.{◌≡◌, refl, sym, subst, ◌<◌, ◌≤◌, ℕ, zero, suc, List, [], ◌∷◌, Bool, true, ◌&&◌, length, arith}
use Rattle.std.proofs.lemmas.Bool.{and_from, and_parts}
use Rattle.std.proofs.lemmas.Bool.Decides.{nat_tests}
use Rattle.std.specs.Prelude.{nat_le, Option, None, Some, option_map, slice_get, IfSome}
use Rattle.std.specs.List.{list_all}
use Rattle.sb_block.specs.Blocks.{encodes, has_units}
use Rattle.sb_statements.specs.Limits.{most_statements}
use Rattle.sb_statements.specs.Soundness.{is_patience, is_start, is_statement, is_thread, is_target, are_targets, names_differ, is_sound, channels_of, SoundTargets, SoundStatements}
use Rattle.sb_statements.specs.Units.{script_has_units, statement_has_units, target_has_units, thread_has_units}
use Rattle.sb_statements.specs.declared.scripts.Script.{Script}
use Rattle.sb_statements.specs.declared.scripts.TargetScript.{TargetScript}
use Rattle.sb_statements.specs.declared.statements.Statement.{Statement}
use Rattle.sb_statements.specs.declared.statements.Statement.TheVariants.{Call, Store, Exchange, Load, Wait}
use Rattle.sb_actor.specs.Found.{AreFound, IsFound, is_encoded}
use Rattle.sb_actor.specs.Places.{threads_of, or_none, statement_at}

pub sound_patience : (script : Script) → is_sound script ≡ true → 0 < script.patience
sound_patience script h =
    let few = nat_le (length script.start) 4096 in
    let starts = list_all is_start script.start in
    let all = and_parts (is_patience script.patience && few && starts) (are_targets script.targets) h in
    let some = and_parts (is_patience script.patience && few) starts all.0 in
    let patience = and_parts (is_patience script.patience) few some.0 in
    let low = (and_parts (nat_le 1 script.patience) (nat_le script.patience 1000000) patience.0).0 in
    grind (arith, nat_tests, low)

pub few_targets : (script : Script) → is_sound script ≡ true → length script.targets ≤ 8
few_targets script h =
    let few = nat_le (length script.start) 4096 in
    let starts = list_all is_start script.start in
    let each = list_all (is_target script.targets) script.targets in
    let all = and_parts (is_patience script.patience && few && starts) (are_targets script.targets) h in
    let some = and_parts (nat_le (length script.targets) 8 && names_differ script.targets) each all.1 in
    let low = (and_parts (nat_le (length script.targets) 8) (names_differ script.targets) some.0).0 in
    grind (arith, nat_tests, low)

-- what holds of all holds of one
one_of_all : {X : Type 0} (p : X → Bool) (xs : List X) (i : ℕ) (x : X) → list_all p xs ≡ true → slice_get xs i ≡ Some x → p x ≡ true
one_of_all p [] i x h e = absurd (cc)
one_of_all p (y ∷ ys) zero x h e =
    let same : y ≡ x = cc in
    subst (λ z. p z ≡ true) same (and_parts (p y) (list_all p ys) h).0
one_of_all p (y ∷ ys) (suc i) x h e = one_of_all p ys i x (and_parts (p y) (list_all p ys) h).1 e

-- an element that is there has a place before the end
pub within : {X : Type 0} (xs : List X) (i : ℕ) (x : X) → slice_get xs i ≡ Some x → i < length xs
within [] i x e = absurd (cc)
within (y ∷ ys) zero x e = omega arith
within (y ∷ ys) (suc i) x e = let l = within ys i x e in omega arith

there : {X : Type 0} (xs : List X) (i : ℕ) → i < length xs → (x : X) × (slice_get xs i ≡ Some x)
there [] i l = absurd (omega arith)
there (y ∷ ys) zero l = (y, refl)
there (y ∷ ys) (suc i) l = there ys i (omega arith)

-- a target has 1 to 8 channels
target_channels : (targets : List TargetScript) (target : TargetScript) → is_target targets target ≡ true → (0 < target.channels) × (target.channels ≤ 8)
target_channels targets target h =
    let few = nat_le (length target.threads) 4 in
    let all = and_parts (nat_le 1 target.channels && nat_le target.channels 8 && few) (list_all (is_thread targets) target.threads) h in
    let some = and_parts (nat_le 1 target.channels && nat_le target.channels 8) few all.0 in
    let low = and_parts (nat_le 1 target.channels) (nat_le target.channels 8) some.0 in
    let one = low.0 in
    let eight = low.1 in
    (grind (arith, nat_tests, one), grind (arith, nat_tests, eight))

pub sound_channels : SoundTargets → (script : Script) (t : ℕ) → is_sound script ≡ true → t < length script.targets
    → (0 < channels_of (slice_get script.targets t)) × (channels_of (slice_get script.targets t) ≤ 8)
sound_channels law script t h l =
    let x = there script.targets t l in
    subst (λ o. (0 < channels_of o) × (channels_of o ≤ 8)) (sym x.1) (target_channels script.targets x.0 (law script t x.0 h x.1))

-- a thread has at most 4,096 statements
thread_length : (targets : List TargetScript) (target : TargetScript) (k : ℕ) (statements : List Statement) → is_target targets target ≡ true
    → slice_get target.threads k ≡ Some statements → length statements ≤ most_statements
thread_length targets target k statements h e =
    let few = nat_le 1 target.channels && nat_le target.channels 8 && nat_le (length target.threads) 4 in
    let each = (and_parts few (list_all (is_thread targets) target.threads) h).1 in
    let one = one_of_all (is_thread targets) target.threads k statements each e in
    let low = (and_parts (nat_le (length statements) 4096) (list_all (is_statement targets) statements) one).0 in
    grind (arith, nat_tests, low)

-- and at most 4 threads
few_threads : (targets : List TargetScript) (target : TargetScript) → is_target targets target ≡ true → length target.threads ≤ 4
few_threads targets target h =
    let few = nat_le 1 target.channels && nat_le target.channels 8 in
    let all = and_parts (few && nat_le (length target.threads) 4) (list_all (is_thread targets) target.threads) h in
    let low = (and_parts few (nat_le (length target.threads) 4) all.0).1 in
    grind (arith, nat_tests, low)

-- what holds of what is found holds of what was given
pub lifted : {X Y : Type 0} (f : X → Y) (P : Y → Type 0) (o : Option X) (p : Option Y) → option_map f o ≡ p → IfSome p P → IfSome o (λ x. P (f x))
lifted f P None p e h = tt
lifted f P (Some x) p e h = subst (λ q. IfSome q P) (sym e) h

-- what holds of each statement of a thread that is there holds of the one at a place
module _ (script : Script) (t k i : ℕ) (P : Statement → Type 0)
    (each : (target : TargetScript) (statements : List Statement) (s : Statement) → slice_get script.targets t ≡ Some target
    → slice_get target.threads k ≡ Some statements → slice_get statements i ≡ Some s → P s) where
  at_place : IfSome (statement_at script t k i) P
  at_place = by_target (slice_get script.targets t) refl
    where
      by_statement : (target : TargetScript) (statements : List Statement) → slice_get script.targets t ≡ Some target → slice_get target.threads k ≡ Some statements
          → (o : Option Statement) → slice_get statements i ≡ o → IfSome o P
      by_statement target statements e f None g = tt
      by_statement target statements e f (Some s) g = each target statements s e f g

      by_thread : (target : TargetScript) → slice_get script.targets t ≡ Some target → (o : Option (List Statement)) → slice_get target.threads k ≡ o
          → IfSome (slice_get (or_none o) i) P
      by_thread target e None f = tt
      by_thread target e (Some statements) f = by_statement target statements e f (slice_get statements i) refl

      by_target : (o : Option TargetScript) → slice_get script.targets t ≡ o → IfSome (slice_get (or_none (slice_get (threads_of o) k)) i) P
      by_target None e = tt
      by_target (Some target) e = by_thread target e (slice_get target.threads k) refl

pub sound_at : (script : Script) (t k i : ℕ) → is_sound script ≡ true → SoundStatements → IfSome (statement_at script t k i) (λ s. is_statement script.targets s ≡ true)
sound_at script t k i h law =
    at_place script t k i (λ s. is_statement script.targets s ≡ true) (λ target statements s e f g. law script t k i target statements s h e f g)

encoded : (targets : List TargetScript) (s : Statement) → is_statement targets s ≡ true → statement_has_units s ≡ true → is_encoded s ≡ true
encoded targets (Call tag args) h u = and_from (encodes tag args) (list_all has_units args) h u
encoded targets _ h u = refl

-- a sound script whose strings are made of units
module _ (script : Script) (t k i : ℕ) (h : is_sound script ≡ true) (u : script_has_units script ≡ true) where
  found_at : SoundTargets → SoundStatements → (target : TargetScript) (statements : List Statement) (s : Statement) → slice_get script.targets t ≡ Some target
      → slice_get target.threads k ≡ Some statements → slice_get statements i ≡ Some s → IsFound script.targets t k i s
  found_at targets_law law target statements s e f g =
      let there = within script.targets t target e in
      let thread = within target.threads k statements f in
      let place = within statements i s g in
      let eight = few_targets script h in
      let sound = targets_law script t target h e in
      let four = few_threads script.targets target sound in
      let most = thread_length script.targets target k statements sound f in
      let statement = law script t k i target statements s h e f g in
      let target_units = one_of_all target_has_units script.targets t target u e in
      let thread_units = one_of_all thread_has_units target.threads k statements target_units f in
      let units = one_of_all statement_has_units statements i s thread_units g in
      record { of_target = omega arith; of_thread = omega arith; at_place = omega arith; sound = statement; encoded = encoded script.targets s statement units }

pub are_found : SoundTargets → SoundStatements → (script : Script) → is_sound script ≡ true → script_has_units script ≡ true → AreFound script
are_found targets_law law script h u = record {
  each = λ t k i. at_place script t k i (λ s. IsFound script.targets t k i s) (found_at script t k i h u targets_law law);
}
