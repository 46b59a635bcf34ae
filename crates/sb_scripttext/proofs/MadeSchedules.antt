-- The actors of what is read have numbers of 32 bits, and each makes at least one step.
use Rattle.std.proofs.Common.{◌≡◌, refl, subst, ℕ, ◌^◌, ◌==◌, List, [], ◌∷◌, Bool, true, false, ◌&&◌, nat_le, nat_lt, cond, length, Option, None, Some, Result, Ok, Err}
use Rattle.std.proofs.lemmas.Bool.{and_parts, and_from}
use Rattle.sb_scripttext.specs.Actors.{number_32, worker_at, thread_at, thread_named, actor_named, where_there, actor_of}
use Rattle.std.specs.List.{before_first, after_first}
use Rattle.sb_scripttext.specs.Actors.{is_dot}
use Rattle.sb_scripttext.specs.ScheduleLimits.{most_steps}
use Rattle.sb_scripttext.specs.ScheduleLines.{any_word_at, within, last_number, count_at, step}
use Rattle.sb_scripttext.specs.SchedulePrinting.{is_actor_of_values, is_made}
use Rattle.sb_base.specs.Numbers.{is_word32}
use Rattle.sb_scripttext.specs.declared.schedule_faults.ScheduleKind.{ScheduleKind}
use Rattle.sb_scripttext.specs.declared.schedule_faults.ScheduleKind.TheVariants.{UnknownWord, UnknownActor, BadNumber, OutOfRange}
use Rattle.sb_statements.specs.Actors.{is_there}
use Rattle.sb_statements.specs.declared.schedules.Actor.{Actor}
use Rattle.sb_statements.specs.declared.schedules.Actor.TheVariants.{Worker, Thread}
use Rattle.sb_statements.specs.declared.scripts.TargetScript.{TargetScript}
use Rattle.sb_text.specs.Numbers.{decimal_of, number_of}
use Rattle.sb_text.specs.Steps.{◌>>=◌, at_token, end_at, is_end, or_fails}
use Rattle.sb_text.specs.Tokens.{Lexemes}
use Rattle.sb_text.specs.declared.refusals.WordFault.TheVariants.{Broken, Extra}
use Rattle.sb_scripttext.proofs.PrintedActors.{below_2_32}
use Rattle.sb_scripttext.proofs.PassingSchedules.{at_made, made, ok_same, passed, was_there}

number_small : (word : List ℕ) (n : ℕ) → number_32 word ≡ Some n → is_word32 n ≡ true
number_small word n h = by_number (decimal_of word) h
  where
    by_test : (m : ℕ) (b : Bool) → nat_lt m (2 ^ 32) ≡ b → ◌≡◌ {A = Option ℕ} (cond b (Some m) None) (Some n) → is_word32 n ≡ true
    by_test m true t h = let same : m ≡ n = cc in subst (λ k. is_word32 k ≡ true) same t
    by_test m false t h = absurd cc

    by_number : (number : Option ℕ) → below_2_32 number ≡ Some n → is_word32 n ≡ true
    by_number None h = absurd cc
    by_number (Some m) h = by_test m (nat_lt m (2 ^ 32)) refl h

worker_small : (target : Option ℕ) (actor : Actor) → ((n : ℕ) → target ≡ Some n → is_word32 n ≡ true) → worker_at target ≡ Some actor → is_actor_of_values actor ≡ true
worker_small None actor f h = absurd cc
worker_small (Some t) actor f h = let same : Worker t ≡ actor = cc in subst (λ a. is_actor_of_values a ≡ true) same (f t refl)

thread_small : (target thread : Option ℕ) (actor : Actor) → ((n : ℕ) → target ≡ Some n → is_word32 n ≡ true) → ((n : ℕ) → thread ≡ Some n → is_word32 n ≡ true)
    → thread_at target thread ≡ Some actor → is_actor_of_values actor ≡ true
thread_small None thread actor f g h = absurd cc
thread_small (Some t) None actor f g h = absurd cc
thread_small (Some t) (Some k) actor f g h =
    let same : Thread t k ≡ actor = cc in subst (λ a. is_actor_of_values a ≡ true) same (and_from _ _ (f t refl) (g k refl))

named_small : (word : List ℕ) (actor : Actor) → actor_named word ≡ Some actor → is_actor_of_values actor ≡ true
named_small [] actor h = absurd cc
named_small (b ∷ word) actor h = by_letter (b == 98) (b == 116) h
  where
    by_letter : (p q : Bool) → cond p (worker_at (number_32 word)) (cond q (thread_named word) None) ≡ Some actor → is_actor_of_values actor ≡ true
    by_letter true q h = worker_small (number_32 word) actor (number_small word) h
    by_letter false true h =
        thread_small (number_32 (before_first is_dot word)) (number_32 (after_first is_dot word)) actor (number_small (before_first is_dot word)) (number_small (after_first is_dot word)) h
    by_letter false false h = absurd cc

actor_small : (targets : List TargetScript) (word : List ℕ) (actor : Actor) → actor_of targets word ≡ Some actor → is_actor_of_values actor ≡ true
actor_small targets word actor h = by_name (actor_named word) (named_small word) h
  where
    by_test : (a : Actor) (b : Bool) → ((x : Actor) → ◌≡◌ {A = Option Actor} (Some a) (Some x) → is_actor_of_values x ≡ true) → ◌≡◌ {A = Option Actor} (cond b (Some a) None) (Some actor)
        → is_actor_of_values actor ≡ true
    by_test a true f h = f actor h
    by_test a false f h = absurd cc

    by_name : (name : Option Actor) → ((x : Actor) → name ≡ Some x → is_actor_of_values x ≡ true) → where_there targets name ≡ Some actor → is_actor_of_values actor ≡ true
    by_name None f h = absurd cc
    by_name (Some a) f h = by_test a (is_there targets a) f h

within_least : (lo hi : ℕ) (word : List ℕ) (n : ℕ) → within lo hi word ≡ Ok n → nat_le lo n ≡ true
within_least lo hi word n h = by_number (number_of word) h
  where
    by_number : (m : Option ℕ) → ◌≡◌ {A = Result ℕ ScheduleKind} (elim m [ None ↦ Err BadNumber | Some m ↦ cond (nat_le lo m && nat_le m hi) (Ok m) (Err (OutOfRange lo hi)) ]) (Ok n) → nat_le lo n ≡ true
    by_number None h = absurd cc
    by_number (Some m) h =
        let t = passed (nat_le lo m && nat_le m hi) m n (OutOfRange lo hi) h in
        subst (λ k. nat_le lo k ≡ true) t.1 (and_parts (nat_le lo m) (nat_le m hi) t.0).0

last_least : (lo hi : ℕ) (words : Lexemes) (n : ℕ) → last_number lo hi words ≡ Ok n → nat_le lo n ≡ true
last_least lo hi words n h =
    let w = made (any_word_at words)
    (λ word. at_token words (within lo hi word.0) >>= λ m. end_at (UnknownWord Extra) (UnknownWord Broken) word.1 >>= λ end. Ok m) n h in
    let m = made (at_token words (within lo hi w.0.0)) (λ m. end_at (UnknownWord Extra) (UnknownWord Broken) w.0.1 >>= λ end. Ok m) n w.2 in
    let e = made (end_at (UnknownWord Extra) (UnknownWord Broken) w.0.1) (λ end. Ok m.0) n m.2 in
    subst (λ k. nat_le lo k ≡ true) (ok_same m.0 n e.2) (within_least lo hi w.0.0 m.0 (at_made words (within lo hi w.0.0) m.0 m.1))

count_least : (words : Lexemes) (n : ℕ) → count_at words ≡ Ok n → nat_le 1 n ≡ true
count_least words n h = by_end (is_end words) h
  where
    by_end : (b : Bool) → cond b (Ok 1) (last_number 1 most_steps words) ≡ Ok n → nat_le 1 n ≡ true
    by_end true h = subst (λ k. nat_le 1 k ≡ true) (ok_same 1 n h) refl
    by_end false h = last_least 1 most_steps words n h

pub step_made : (targets : List TargetScript) (words : Lexemes) (s : Actor × ℕ) → step targets words ≡ Ok s → is_made s ≡ true
step_made targets words s h =
    let w = made (any_word_at words) (λ word. or_fails words UnknownActor (actor_of targets word.0) >>= λ actor. count_at word.1 >>= λ n. Ok (actor, n)) s h in
    let a = made (or_fails words UnknownActor (actor_of targets w.0.0)) (λ actor. count_at w.0.1 >>= λ n. Ok (actor, n)) s w.2 in
    let n = made (count_at w.0.1) (λ n. Ok (a.0, n)) s a.2 in
    subst (λ x. is_made x ≡ true) (ok_same (a.0, n.0) s n.2)
    (and_from _ _ (actor_small targets w.0.0 a.0 (was_there words UnknownActor (actor_of targets w.0.0) a.0 a.1)) (count_least w.0.1 n.0 n.1))
