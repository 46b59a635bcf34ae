-- The target, the channel and the word that the next step of an actor names are there, each below its own bound.
use Rattle.std.proofs.Common.{◌≡◌, ◌∙◌, refl, ap, subst, sym, ℕ, zero, suc, ◌+◌, ◌*◌, ◌<◌, ◌≤◌, true, List, [], ◌∷◌, length, map, get_or, Option, None, Some, IfSome, slice_get, lit≤, arith, get_or-set_same}
use Rattle.sb_core.proofs.Names.{Ack, and_parts, channels_at, channels_of, Copy, Count, End, has_units, has_word, HasTarget, is_holder, is_patience, is_sound, is_statement, IsActThere, IsRunning, IsRunOf, IsSoundStage, IsSoundThreadStage, IsWordThere, IsWorkerOf, IsWorld, length-map, list_all, Look, nat_le, nat_lt, nat_tests, no_worker, on_worker, or_none, run_at, RunAt, Script, script_has_units, SharedAt, slice_index, SoundStatements, Statement, statement_at, statement_has_units, stray_row, target_has_units, TargetScript, thread_has_units, thread_plan, ThreadAt, threads_at, threads_of, ThreadStage, Word, words_of, worker_after, worker_at, worker_goes, worker_plan, worker_step, WorkerAt, WorkerStage, WorldAt}
use Rattle.sb_actor.specs.ThreadStages as thread
use Rattle.sb_actor.specs.WorkerStages.{Reply}
use Rattle.sb_statements.specs.declared.statements.Statement.TheVariants as statement
use Rattle.sb_core.proofs.Bounds.{ready_sound}
use Rattle.sb_call.specs.declared.arguments.Arg.{Arg}
use Rattle.sb_call.specs.declared.tags.CallTag.{CallTag}
use Rattle.sb_statements.specs.declared.statements.Statement.TheVariants.{Call}
use Rattle.sb_core.proofs.Sets.{one_of_all}
use Rattle.sb_core.proofs.Numbers.{none_some}

inside : (c channels j n : ℕ) → c < channels → j ≤ 64 → n ≡ channels * 65 → c * 65 + j < n
inside c channels j n h l e = omega arith

-- a word of one of the channels of a target
module _ (words : List (List ℕ)) (t channels c : ℕ) (target : t < 8) (few : channels ≤ 8) (here : t < length words) (within : c < channels)
    (sized : length (words_of words t) ≡ channels * 65) where
  named : (j : ℕ) → j ≤ 64 → IsWordThere words t (record { channel = c; at = j })
  named j l = record { target = target; channel = omega (arith, few, within); low = omega (arith, l); listed = here; inside = inside c channels j (length (words_of words t)) within l sized }

  pub worker_act : (stage : WorkerStage) → IsSoundStage stage
      → IsActThere words (worker_plan (record { target = t; channels = channels; channel = c; stage = stage }))
  worker_act Look s = named 0 (lit≤ tt)
  worker_act Count s = named (1 + 2) (lit≤ tt)
  worker_act (End count) s = named (1 + (15 + count)) (omega (arith, s))
  worker_act (Copy count end copy) s = let high = s.2 in let below = s.3 in named (1 + length copy) (omega (arith, high, below))
  worker_act (Reply taken reply at) s = let below = s.0 in named (1 + (3 + at)) (omega (arith, below))
  worker_act (Ack taken reply) s = named 0 (lit≤ tt)
  worker_act _ s = tt

-- the worker of a world
module _ (w : WorldAt) (t : ℕ) (kept : IsWorld w) (there : t < length w.workers) where
  pub words_listed : t < length w.shared.words
  words_listed = let e = kept.words in omega (arith, e, there)

  pub target_low : t < 8
  target_low = let few = kept.few in omega (arith, few, there)

  -- the worker is that of its place
  pub its_own : worker_at w t ≡ record (worker_at w t) { target = t }
  its_own = ap (λ z. record (worker_at w t) { target = z }) (kept.workers t there).its_target

  -- what holds of its step, by the worker of its place
  pub of_own : (P : WorkerAt → WorkerAt → SharedAt → Type 0)
      → P (record (worker_at w t) { target = t }) (worker_after (record (worker_at w t) { target = t }) (on_worker w.shared t (record (worker_at w t) { target = t }) (worker_plan (record (worker_at w t) { target = t }))).seen)
      (on_worker w.shared t (record (worker_at w t) { target = t }) (worker_plan (record (worker_at w t) { target = t }))).shared
      → P (worker_at w t) (worker_at (worker_step w t) t) (worker_step w t).shared
  of_own P h =
      let x = worker_at w t in
      subst (λ (z : WorkerAt). P z (worker_at (worker_goes w t z (on_worker w.shared t z (worker_plan z))) t) (on_worker w.shared t z (worker_plan z)).shared) (sym its_own)
      (subst (λ (y : WorkerAt). P (record x { target = t }) y (on_worker w.shared t (record x { target = t }) (worker_plan (record x { target = t }))).shared)
      (sym (get_or-set_same w.workers t _ no_worker there)) h)

  pub worker_there : IsActThere w.shared.words (worker_plan (worker_at w t))
  worker_there =
      let x = kept.workers t there in
      subst (λ (z : WorkerAt). IsActThere w.shared.words (worker_plan z)) (sym its_own)
      (worker_act w.shared.words t (worker_at w t).channels (worker_at w t).channel target_low x.few words_listed x.within x.sized (worker_at w t).stage x.sound)

  pub worker_channel : (worker_at w t).channel < slice_index w.shared.book.setting.channels t
  worker_channel = let x = kept.workers t there in subst (λ z. (worker_at w t).channel < z) x.its_channels x.within

  pub worker_policy : t < length w.shared.book.setting.policies
  worker_policy = let e = kept.policies in omega (arith, e, there)

-- a thread and a worker keep what they have in a world with the same channels, sizes and turn
pub run_kept : (w v : WorldAt) (t k : ℕ) (x : RunAt) → channels_at v t ≡ channels_at w t → IsRunOf w t k x → IsRunOf v t k x
run_kept w v t k x same h =
    record { its_target = h.its_target; its_number = h.its_number; its_channels = h.its_channels ∙ sym same; short = h.short; sound = h.sound; counted = h.counted }

pub worker_kept : (w v : WorldAt) (t : ℕ) (x : WorkerAt) → channels_at v t ≡ channels_at w t → length (words_of v.shared.words t) ≡ length (words_of w.shared.words t)
    → is_holder v.shared.turn t ≡ is_holder w.shared.turn t → IsWorkerOf w t x → IsWorkerOf v t x
worker_kept w v t x same size turn h = record {
  its_target = h.its_target;
  its_channels = h.its_channels ∙ sym same;
  within = h.within;
  few = h.few;
  sound = h.sound;
  sized = size ∙ h.sized;
  turn = h.turn ∙ sym turn;
}

-- how many channels a target has, by the list of them
pub channels_from : (targets : List TargetScript) (t : ℕ) → slice_index (map (λ target. target.channels) targets) t ≡ channels_of (slice_get targets t)
channels_from [] t = refl
channels_from (target ∷ targets) zero = refl
channels_from (target ∷ targets) (suc t) = channels_from targets t

-- and how many words
pub wanted_at : (targets : List TargetScript) (t : ℕ) → get_or (map (λ (target : TargetScript). target.channels * 65) targets) t 0 ≡ channels_of (slice_get targets t) * 65
wanted_at [] t = refl
wanted_at (target ∷ targets) zero = refl
wanted_at (target ∷ targets) (suc t) = wanted_at targets t

-- a channel that is there is one of a target that is
pub some_target : (targets : List TargetScript) (t c : ℕ) → c < channels_of (slice_get targets t) → t < length targets
some_target [] t c h = absurd (omega arith)
some_target (target ∷ targets) zero c h = omega arith
some_target (target ∷ targets) (suc t) c h = let l = some_target targets t c h in omega (arith, l)

-- each target of a script has its words
abbrev HasAll : Script → WorldAt → Type 0
HasAll script w = (t : ℕ) → t < length script.targets → HasTarget script w t

-- the channel and the place of a word that a sound statement names
pub word_parts : (script : Script) (t : ℕ) (word : Word) → has_word script.targets t word ≡ true → (word.channel < channels_of (slice_get script.targets t)) × (word.at ≤ 64)
word_parts script t word h =
    let parts = and_parts (nat_lt word.channel (channels_of (slice_get script.targets t))) (nat_le word.at 64) h in
    let first = parts.0 in
    let second = parts.1 in
    (grind (arith, nat_tests, first), grind (arith, nat_tests, second))

-- words that a sound statement names are there
module _ (script : Script) (w : WorldAt) (has : HasAll script w) where
  word_there : (t : ℕ) (word : Word) → has_word script.targets t word ≡ true → IsWordThere w.shared.words t word
  word_there t word h =
      let parts = word_parts script t word h in
      let there = has t (some_target script.targets t word.channel parts.0) in
      named w.shared.words t (channels_of (slice_get script.targets t)) word.channel there.target there.few there.listed parts.0 there.sized word.at parts.1

  stray_act : (x : ThreadAt) (loads most : ℕ) (o : Option Statement) → IfSome o (λ s. is_statement script.targets s ≡ true)
      → IsActThere w.shared.words (stray_row script x loads most o).step
  stray_act x loads most (Some (statement.Store t word v)) h = word_there t word h
  stray_act x loads most (Some (statement.Exchange t word from to)) h = word_there t word h
  stray_act x loads most (Some (statement.Load t word)) h = word_there t word h
  stray_act x loads most (Some (statement.Wait t word v n)) h =
      word_there t word (and_parts (has_word script.targets t word) (is_patience n) h).0
  stray_act x loads most _ h = tt

-- what holds of a place by its target and by the statements of its thread
pub at_statement : (P : Option Statement → Type 0) (script : Script) (t k i : ℕ) → P None
    → ((target : TargetScript) (statements : List Statement) (s : Statement) → slice_get script.targets t ≡ Some target → slice_get target.threads k ≡ Some statements
    → slice_get statements i ≡ Some s → P (Some s)) → P (statement_at script t k i)
at_statement P script t k i none some = by_target (slice_get script.targets t) refl
  where
    by_statement : (target : TargetScript) (statements : List Statement) → slice_get script.targets t ≡ Some target → slice_get target.threads k ≡ Some statements
        → (o : Option Statement) → slice_get statements i ≡ o → P o
    by_statement target statements e f None g = none
    by_statement target statements e f (Some s) g = some target statements s e f g

    by_thread : (target : TargetScript) → slice_get script.targets t ≡ Some target → (o : Option (List Statement)) → slice_get target.threads k ≡ o → P (slice_get (or_none o) i)
    by_thread target e None f = none
    by_thread target e (Some statements) f = by_statement target statements e f (slice_get statements i) refl

    by_target : (o : Option TargetScript) → slice_get script.targets t ≡ o → P (slice_get (or_none (slice_get (threads_of o) k)) i)
    by_target None e = none
    by_target (Some target) e = by_thread target e (slice_get target.threads k) refl

-- a statement of a sound script is sound
pub sound_at : (script : Script) (t k i : ℕ) → is_sound script ≡ true → SoundStatements → IfSome (statement_at script t k i) (λ s. is_statement script.targets s ≡ true)
sound_at script t k i sound law =
    at_statement (λ o. IfSome o (λ s. is_statement script.targets s ≡ true)) script t k i tt (λ target statements s e f g. law script t k i target statements s sound e f g)

-- the step of a thread at a stage
module _ (script : Script) (w : WorldAt) (x : ThreadAt) (has : HasAll script w) (target : x.target < 8) (few : length x.clean ≤ 8) (here : x.target < length w.shared.words)
    (mine : length (words_of w.shared.words x.target) ≡ length x.clean * 65) (short : length x.block ≤ 64)
    (stray : IfSome (statement_at script x.target x.thread x.place) (λ s. is_statement script.targets s ≡ true)) where
  abbrev word : (c : ℕ) → c < length x.clean → (j : ℕ) → j ≤ 64 → IsWordThere w.shared.words x.target (record { channel = c; at = j })
  word c within j l = named w.shared.words x.target (length x.clean) c target few here within mine j l

  pub thread_act : (stage : ThreadStage) → IsSoundThreadStage (length x.clean) x.patience x.block stage
      → IsActThere w.shared.words (thread_plan script (record x { stage = stage }))
  thread_act (thread.Try c rounds all_abandoned) s = word c s.0 0 (lit≤ tt)
  thread_act (thread.Fill c i) s = let below = s.1 in word c s.0 (1 + i) (omega (arith, below, short))
  thread_act (thread.Send c) s = word c s 0 (lit≤ tt)
  thread_act (thread.Wait c loads) s = word c s.0 0 (lit≤ tt)
  thread_act (thread.Fetch c fetched) s = let below = s.1 in word c s.0 (1 + (3 + length fetched)) (omega (arith, below))
  thread_act (thread.Free c fetched) s = word c s.0 0 (lit≤ tt)
  thread_act (thread.Abandon c) s = word c s 0 (lit≤ tt)
  thread_act (thread.Stray loads most) s =
      stray_act script w has (record x { stage = thread.Stray loads most }) loads most (statement_at script x.target x.thread x.place) stray
  thread_act thread.Over s = tt

-- a list of lists that has an element at a place has a list there
pub listed : {X : Type 0} (xs : List (List X)) (t k : ℕ) → k < length (get_or xs t []) → t < length xs
listed [] t k h = absurd (omega arith)
listed (ys ∷ xs) zero k h = omega arith
listed (ys ∷ xs) (suc t) k h = let l = listed xs t k h in omega (arith, l)

-- the targets of a world that runs a script have their words
module _ (script : Script) (w : WorldAt) (kept : IsWorld w) (runs : IsRunning script w) where
  pub as_many : length w.workers ≡ length script.targets
  as_many = sym kept.channels ∙ (ap (λ (cs : List ℕ). length cs) runs.channels ∙ length-map script.targets (λ target. target.channels))

  pub their_channels : (t : ℕ) → channels_at w t ≡ channels_of (slice_get script.targets t)
  their_channels t = ap (λ cs. slice_index cs t) runs.channels ∙ channels_from script.targets t

  pub targets_there : HasAll script w
  targets_there t l =
      let n = as_many in
      let there : t < length w.workers = omega (arith, n, l) in
      let x = kept.workers t there in
      let same : (worker_at w t).channels ≡ channels_of (slice_get script.targets t) = x.its_channels ∙ their_channels t in
      record {
        target = target_low w t kept there;
        few = subst (λ z. z ≤ 8) same x.few;
        worker = there;
        channels = their_channels t;
        listed = words_listed w t kept there;
        sized = x.sized ∙ ap (λ z. z * 65) same;
      }

  pub thread_there : (t k : ℕ) → k < length (threads_at w t) → SoundStatements → IsActThere w.shared.words (thread_plan script (run_at w t k).thread)
  thread_there t k l law =
      let y = kept.threads t k l in
      let x = (run_at w t k).thread in
      let e = kept.lists in
      let m = listed w.threads t k l in
      let there : t < length w.workers = omega (arith, e, m) in
      let worker = kept.workers t there in
      let here : x.target < length w.shared.words = subst (λ z. z < length w.shared.words) (sym y.its_target) (words_listed w t kept there) in
      let low : x.target < 8 = subst (λ z. z < 8) (sym y.its_target) (target_low w t kept there) in
      let same : (worker_at w t).channels ≡ length x.clean = worker.its_channels ∙ sym y.its_channels in
      let mine : length (words_of w.shared.words x.target) ≡ length x.clean * 65 =
      subst (λ z. length (words_of w.shared.words z) ≡ length x.clean * 65) (sym y.its_target) (worker.sized ∙ ap (λ z. z * 65) same) in
      thread_act script w x targets_there low (subst (λ z. z ≤ 8) same worker.few) here mine y.short (sound_at script x.target x.thread x.place (ready_sound runs.policies script runs.ready) law) x.stage y.sound

-- the strings of the call at each place of a script are made of units
abbrev pub HasUnits : Script → Type 0
HasUnits script = (t k i : ℕ) (tag : CallTag) (args : List Arg) → statement_at script t k i ≡ Some (Call tag args) → list_all has_units args ≡ true

pub units_are_placed : (script : Script) → script_has_units script ≡ true → HasUnits script
units_are_placed script h t k i tag args e =
    at_statement (λ o. o ≡ Some (Call tag args) → list_all has_units args ≡ true) script t k i (λ q. absurd (none_some (Call tag args) q))
    (λ target statements s f g q same.
    one_of_all statement_has_units statements i (Call tag args)
    (one_of_all thread_has_units target.threads k statements (one_of_all target_has_units script.targets t target h f) g) (q ∙ same)) e
