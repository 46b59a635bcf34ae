-- Where actors are after a step.
use Rattle.std.proofs.Common.{◌≡◌, ◌≢◌, ◌∙◌, refl, ap, subst, sym, ℕ, zero, suc, map, ◌<◌, ◌++◌, Bool, true, false, eqb, List, [], ◌∷◌, length, set, get_or, get_or-set_same, Option, None, Some, IfSome, is_some, if◌then◌else◌, slice_index, arith, option_to_list}
use Rattle.std.proofs.lemmas.Bool.Decides.{nat_tests}
use Rattle.sb_actor.specs.ThreadTable.{thread_after}
use Rattle.sb_actor.specs.WorkerStages.{WorkerAt}
use Rattle.sb_actor.specs.WorkerTable.{worker_plan, worker_after}
use Rattle.sb_actor.specs.declared.acts.Act.{Act}
use Rattle.sb_actor.specs.declared.acts.Act.TheVariants as act
use Rattle.sb_actor.specs.Observations.{Observation}
use Rattle.sb_statements.specs.Actors.{is_there}
use Rattle.sb_statements.specs.declared.schedules.Actor.{Actor}
use Rattle.sb_statements.specs.declared.schedules.Actor.TheVariants.{Worker, Thread}
use Rattle.sb_statements.specs.declared.scripts.Script.{Script}
use Rattle.sb_statements.specs.declared.scripts.TargetScript.{TargetScript}
use Rattle.sb_core.specs.Changes.{Changes, plan_of}
use Rattle.sb_book.specs.Histories.{History, Setting}
use Rattle.sb_core.specs.Kept.{IsRunning, IsWorld, is_holder}
use Rattle.sb_core.specs.Shared.{SharedAt, Effect, on_word, on_worker}
use Rattle.sb_core.specs.Threads.{RunAt, no_run, thread_step}
use Rattle.sb_core.specs.Worlds.{WorldAt, no_worker, run_at, threads_at, worker_at, step}
use Rattle.sb_shared.specs.Parts.{actor_in, held_by, is_on_word, part_of, part_after, plan_in, seen_of}
use Rattle.sb_shared.specs.Origins.{setting_in}
use Rattle.sb_shared.specs.Standing.{AllStand, IsThreadHere, IsWorkerHere, Stands}
use Rattle.sb_shared.specs.Steps.{shown_in}
use Rattle.sb_shared.specs.declared.views.Origin.{Origin}
use Rattle.sb_shared.specs.declared.views.Part.{Part}
use Rattle.sb_shared.specs.declared.views.Part.TheVariants as part

-- a list of lists that has an element at a place has a list there
listed : {X : Type 0} (xs : List (List X)) (t k : ℕ) → k < length (get_or xs t []) → t < length xs
listed [] t k h = absurd (omega arith)
listed (ys ∷ xs) zero k h = omega arith
listed (ys ∷ xs) (suc t) k h = let l = listed xs t k h in omega (arith, l)

mapped_length : (targets : List TargetScript) → length (map (λ target. target.channels) targets) ≡ length targets
mapped_length [] = refl
mapped_length (target ∷ targets) = ap suc (mapped_length targets)

-- an actor of a script is in a world that runs it
module _ (script : Script) (w : WorldAt) (kept : IsWorld w) (runs : IsRunning script w) where
  pub worker_listed : (t : ℕ) → is_there script.targets (Worker t) ≡ true → t < length w.workers
  worker_listed t h =
      let n : length w.workers ≡ length script.targets = sym kept.channels ∙ ap (λ (cs : List ℕ). length cs) runs.channels ∙ mapped_length script.targets in
      grind (arith, nat_tests, n, h)

  pub thread_listed : (t k : ℕ) → is_there script.targets (Thread t k) ≡ true → k < length (threads_at w t)
  thread_listed t k h = let n = runs.threads t in grind (arith, nat_tests, n, h)

-- the actor of an actor's part
pub actor_of_part : (w : WorldAt) (a : Actor) → actor_in (part_of w a) ≡ a
actor_of_part w (Worker t) = refl
actor_of_part w (Thread t k) = refl

pub plan_of_part : (script : Script) (w : WorldAt) (a : Actor) → plan_in script (part_of w a) ≡ plan_of script w a
plan_of_part script w (Worker t) = refl
plan_of_part script w (Thread t k) = refl

-- a step on a word is the same for workers and threads
pub on_worker_word : (s : SharedAt) (t : ℕ) (x : WorkerAt) (a : Act) → is_on_word a ≡ true → on_worker s t x a ≡ on_word s a
on_worker_word s t x (act.Load u word) on = refl
on_worker_word s t x (act.Store u word v) on = refl
on_worker_word s t x (act.Exchange u word from to) on = refl
on_worker_word s t x _ on = absurd cc

pub word_turn : (s : SharedAt) (a : Act) → (on_word s a).shared.turn ≡ s.turn
word_turn s (act.Load u word) = refl
word_turn s _ = refl

pub word_book : (s : SharedAt) (a : Act) → (on_word s a).shared.book ≡ s.book
word_book s (act.Load u word) = refl
word_book s _ = refl

-- what a step on a word shows
pub shown_on_word : (script : Script) (w : WorldAt) (p : Part) → is_on_word (plan_in script p) ≡ true → shown_in script w p ≡ (on_word w.shared (plan_in script p)).seen
shown_on_word script w (part.Worker t state book) on = ap (λ (e : Effect). e.seen) (on_worker_word w.shared t state (worker_plan state) on)
shown_on_word script w (part.Thread t k state results) on = refl

-- what all share after a step on a word
pub shared_after : (script : Script) (w : WorldAt) (a : Actor) → is_on_word (plan_of script w a) ≡ true → (step script w a).shared ≡ (on_word w.shared (plan_of script w a)).shared
shared_after script w (Worker t) on = ap (λ (e : Effect). e.shared) (on_worker_word w.shared t (worker_at w t) (worker_plan (worker_at w t)) on)
shared_after script w (Thread t k) on = refl

-- an actor that did not make the step is where it was, if the book is with whom it was
pub part_stays : (script : Script) (w : WorldAt) (a b : Actor) → Changes a (plan_of script w a) w (step script w a) → a ≢ b
    → ((t : ℕ) → b ≡ Worker t → held_by (step script w a).shared.turn (step script w a).shared.book t ≡ held_by w.shared.turn w.shared.book t)
    → part_of (step script w a) b ≡ part_of w b
part_stays script w a (Worker t) changes apart held = λ i. part.Worker t (changes.workers t apart i) (held t refl i)
part_stays script w a (Thread t k) changes apart held =
    let same = changes.threads t k apart in
    λ i. part.Thread t k (same i).thread (same i).results

-- where the worker of a target is after its step
module _ (script : Script) (w : WorldAt) (kept : IsWorld w) (runs : IsRunning script w) where
  pub worker_moved : (t : ℕ) → is_there script.targets (Worker t) ≡ true
      → worker_at (step script w (Worker t)) t ≡ worker_after (worker_at w t) (on_worker w.shared t (worker_at w t) (worker_plan (worker_at w t))).seen
  worker_moved t there = get_or-set_same w.workers t (worker_after (worker_at w t) (on_worker w.shared t (worker_at w t) (worker_plan (worker_at w t))).seen) no_worker (worker_listed script w kept runs t there)

  pub thread_moved : (t k : ℕ) → is_there script.targets (Thread t k) ≡ true → run_at (step script w (Thread t k)) t k ≡ (thread_step script w.shared (run_at w t k)).run
  thread_moved t k there =
      let run = (thread_step script w.shared (run_at w t k)).run in
      let l = thread_listed script w kept runs t k there in
      ap (λ (xs : List RunAt). get_or xs k no_run) (get_or-set_same w.threads t (set (threads_at w t) k run) [] (listed w.threads t k l))
      ∙ get_or-set_same (threads_at w t) k run no_run l

  -- where an actor is after its step on a word
  pub part_moved : (a : Actor) (n : ℕ) → is_there script.targets a ≡ true → is_on_word (plan_of script w a) ≡ true
      → (on_word w.shared (plan_of script w a)).seen ≡ seen_of (plan_of script w a) n → part_of (step script w a) a ≡ part_after script (part_of w a) n
  part_moved (Worker t) n there on seen =
      let x = worker_at w t in
      let plan = worker_plan x in
      let same = on_worker_word w.shared t x plan on in
      let moved : worker_at (step script w (Worker t)) t ≡ worker_after x (seen_of plan n) =
      worker_moved t there ∙ ap (λ (e : Effect). worker_after x e.seen) same ∙ ap (worker_after x) seen in
      let turn : (on_worker w.shared t x plan).shared.turn ≡ w.shared.turn = ap (λ (e : Effect). e.shared.turn) same ∙ word_turn w.shared plan in
      let book : (on_worker w.shared t x plan).shared.book ≡ w.shared.book = ap (λ (e : Effect). e.shared.book) same ∙ word_book w.shared plan in
      λ i. part.Worker t (moved i) (held_by (turn i) (book i) t)
  part_moved (Thread t k) n there on seen =
      let x = run_at w t k in
      let run = thread_moved t k there in
      let after = λ (s : Observation). thread_after script x.thread s in
      (λ i. part.Thread t k (run i).thread (run i).results)
      ∙ (λ i. part.Thread t k (after (seen i)).thread (x.results ++ option_to_list (after (seen i)).ended))

-- what holds of an actor of a run wherever it is
if_some : (b : Bool) (book : History) → is_some (if b then Some book else None) ≡ b
if_some true book = refl
if_some false book = refl

holder_has : (o : Option ℕ) (book : History) (t : ℕ) → is_some (held_by o book t) ≡ is_holder o t
holder_has None book t = refl
holder_has (Some h) book t = if_some (eqb h t) book

if_setting : (setting : Setting) (b : Bool) (book : History) → book.setting ≡ setting → IfSome (if b then Some book else None) (λ z. z.setting ≡ setting)
if_setting setting true book e = e
if_setting setting false book e = tt

held_setting : (setting : Setting) (o : Option ℕ) (book : History) (t : ℕ) → book.setting ≡ setting → IfSome (held_by o book t) (λ z. z.setting ≡ setting)
held_setting setting None book t e = tt
held_setting setting (Some h) book t e = if_setting setting (eqb h t) book e

module _ (key : Origin) (w : WorldAt) (kept : IsWorld w) (runs : IsRunning key.script.value w) (same : w.shared.book.setting ≡ setting_in key) where
  worker_stands : (t : ℕ) → is_there key.script.value.targets (Worker t) ≡ true → IsWorkerHere key t (worker_at w t) (held_by w.shared.turn w.shared.book t)
  worker_stands t there =
      let l = worker_listed key.script.value w kept runs t there in
      let x = kept.workers t l in
      let count = kept.policies in
      record {
        its_target = x.its_target;
        listed = subst (λ (s : Setting). t < length s.policies) same (omega (arith, l, count));
        its_channels = x.its_channels ∙ ap (λ (s : Setting). slice_index s.channels t) same;
        turn = x.turn ∙ sym (holder_has w.shared.turn w.shared.book t);
        setting = held_setting (setting_in key) w.shared.turn w.shared.book t same;
      }

  thread_stands : (t k : ℕ) → is_there key.script.value.targets (Thread t k) ≡ true → IsThreadHere key t k (run_at w t k)
  thread_stands t k there =
      let l = thread_listed key.script.value w kept runs t k there in
      let x = kept.threads t k l in
      record { its_target = x.its_target; its_number = x.its_number; stands = runs.stands t k l; counted = x.counted }

  pub stands_there : (a : Actor) → is_there key.script.value.targets a ≡ true → Stands key (part_of w a)
  stands_there (Worker t) there = worker_stands t there
  stands_there (Thread t k) there = thread_stands t k there

  -- a seat of one actor
  pub all_stand : (k : Origin) (ps : List Part) (a : Actor) → k ≡ key → ps ≡ part_of w a ∷ [] → is_there key.script.value.targets a ≡ true → AllStand k ps
  all_stand k ps a e f there = subst (λ (z : Origin × List Part). AllStand z.0 z.1) (λ i. (sym e i, sym f i)) (stands_there a there, tt)
