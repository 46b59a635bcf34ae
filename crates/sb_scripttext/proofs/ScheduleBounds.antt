-- The actors of what is read are there, and its steps and rounds are within their limits.
use Rattle.std.proofs.Common.{◌≡◌, refl, ap, ◌∙◌, subst, arith, ℕ, ◌+◌, ◌≤◌, List, [], ◌∷◌, ◌++◌, Bool, true, false, ◌&&◌, nat_le, cond, length, Option, None, Some, Result, Ok, Err, IfOk, codes}
use Rattle.std.proofs.lemmas.Bool.{and_parts}
use Rattle.std.proofs.lemmas.Bool.Decides.{nat_tests}
use Rattle.std.proofs.lemmas.List.Folds.{list_all-append}
use Rattle.std.specs.List.{list_all}
use Rattle.sb_call.specs.CallWords.{is_word}
use Rattle.sb_scripttext.proofs.ScheduleCounts.{one_more}
use Rattle.sb_scripttext.proofs.MadeSchedules.{step_made}
use Rattle.sb_scripttext.proofs.PassingSchedules.{at_made, made, ok_same, passed, was_there}
use Rattle.sb_scripttext.specs.SchedulePrinting.{is_made}
use Rattle.sb_scripttext.specs.Actors.{actor_named, where_there, actor_of}
use Rattle.sb_statements.specs.Actors.{is_there, is_step_there}
use Rattle.sb_scripttext.specs.ScheduleDrafts.{Drafted, step_count, nothing, has_rounds, with_step, with_rounds, finished}
use Rattle.sb_scripttext.specs.ScheduleLaws.{ActorsAreThere, StepsAreCounted, RoundsAreCounted}
use Rattle.sb_scripttext.specs.SchedulePrintingLaws.{ActorsMakeSteps}
use Rattle.sb_scripttext.specs.ScheduleLimits.{most_steps, most_rounds}
use Rattle.sb_scripttext.specs.ScheduleLines.{any_word_at, within, last_number, count_at, step, last_word, add_steps, line_by, line_of}
use Rattle.sb_scripttext.specs.ScheduleTexts.{ScheduleFault, schedule_version, add_line, grammar, reading}
use Rattle.sb_scripttext.specs.declared.schedule_faults.ScheduleKind.{ScheduleKind}
use Rattle.sb_scripttext.specs.declared.schedule_faults.ScheduleKind.TheVariants.{UnknownWord, UnknownActor, BadNumber, OutOfRange, TooMany}
use Rattle.sb_statements.specs.declared.schedules.Actor.{Actor}
use Rattle.sb_statements.specs.declared.schedules.Schedule.{Schedule}
use Rattle.sb_statements.specs.declared.scripts.TargetScript.{TargetScript}
use Rattle.sb_text.specs.Lines.{NumberedLine, raw_lines, lines_of}
use Rattle.sb_text.specs.Numbers.{number_of}
use Rattle.sb_text.specs.Readings.{on_line, read_lines, read_by}
use Rattle.sb_base.specs.Refusals.{Gives}
use Rattle.sb_text.specs.Columns.{fails}
use Rattle.sb_text.specs.Steps.{◌>>=◌, at_token, end_at, or_fails}
use Rattle.sb_text.specs.declared.refusals.TokenFault.{TokenFault}
use Rattle.sb_text.specs.declared.refusals.WordFault.TheVariants.{Broken, Extra, Misplaced, Unknown}
use Rattle.sb_base.specs.declared.refusals.Refused.{Refused}
use Rattle.sb_text.specs.Tokens.{Lexemes, by_words, words_of}

on_this : {A : Type 0} (line : NumberedLine) (read : Result A (TokenFault ScheduleKind)) (x : A) → on_line by_words line read ≡ Ok x → read ≡ Ok x
on_this line (Ok y) x h = ap Ok (ok_same y x h)
on_this line (Err fault) x h = absurd cc

named_there : (targets : List TargetScript) (word : List ℕ) (actor : Actor) → actor_of targets word ≡ Some actor → is_there targets actor ≡ true
named_there targets word actor h = by_name (actor_named word) h
  where
    by_test : (a : Actor) (b : Bool) → is_there targets a ≡ b → ◌≡◌ {A = Option Actor} (cond b (Some a) None) (Some actor) → is_there targets actor ≡ true
    by_test a true t h = let same : a ≡ actor = cc in subst (λ x. is_there targets x ≡ true) same t
    by_test a false t h = absurd cc

    by_name : (name : Option Actor) → where_there targets name ≡ Some actor → is_there targets actor ≡ true
    by_name None h = absurd cc
    by_name (Some a) h = by_test a (is_there targets a) refl h

within_most : (lo hi : ℕ) (word : List ℕ) (n : ℕ) → within lo hi word ≡ Ok n → n ≤ hi
within_most lo hi word n h = by_number (number_of word) h
  where
    by_number : (m : Option ℕ) → ◌≡◌ {A = Result ℕ ScheduleKind} (elim m [ None ↦ Err BadNumber | Some m ↦ cond (nat_le lo m && nat_le m hi) (Ok m) (Err (OutOfRange lo hi)) ]) (Ok n) → n ≤ hi
    by_number None h = absurd cc
    by_number (Some m) h =
        let t = passed (nat_le lo m && nat_le m hi) m n (OutOfRange lo hi) h in
        let high = (and_parts (nat_le lo m) (nat_le m hi) t.0).1 in
        subst (λ k. k ≤ hi) t.1 (grind (arith, nat_tests, high))

step_there : (targets : List TargetScript) (words : Lexemes) (s : Actor × ℕ) → step targets words ≡ Ok s → is_step_there targets s ≡ true
step_there targets words s h =
    let w = made (any_word_at words) (λ word. or_fails words UnknownActor (actor_of targets word.0) >>= λ actor. count_at word.1 >>= λ n. Ok (actor, n)) s h in
    let a = made (or_fails words UnknownActor (actor_of targets w.0.0)) (λ actor. count_at w.0.1 >>= λ n. Ok (actor, n)) s w.2 in
    let n = made (count_at w.0.1) (λ n. Ok (a.0, n)) s a.2 in
    let same : a.0 ≡ s.0 = ap (λ (y : Actor × ℕ). y.0) (ok_same (a.0, n.0) s n.2) in
    subst (λ x. is_there targets x ≡ true) same (named_there targets w.0.0 a.0 (was_there words UnknownActor (actor_of targets w.0.0) a.0 a.1))

last_most : (lo hi : ℕ) (words : Lexemes) (n : ℕ) → last_number lo hi words ≡ Ok n → n ≤ hi
last_most lo hi words n h =
    let w = made (any_word_at words)
    (λ word. at_token words (within lo hi word.0) >>= λ m. end_at (UnknownWord Extra) (UnknownWord Broken) word.1 >>= λ end. Ok m) n h in
    let m = made (at_token words (within lo hi w.0.0)) (λ m. end_at (UnknownWord Extra) (UnknownWord Broken) w.0.1 >>= λ end. Ok m) n w.2 in
    let e = made (end_at (UnknownWord Extra) (UnknownWord Broken) w.0.1) (λ end. Ok m.0) n m.2 in
    subst (λ k. k ≤ hi) (ok_same m.0 n e.2) (within_most lo hi w.0.0 m.0 (at_made words (within lo hi w.0.0) m.0 m.1))

-- what was read is within its bounds
pub record IsBounded (targets : List TargetScript) (draft : Drafted) : Type 0 where
  pub there : list_all (is_step_there targets) draft.steps ≡ true
  pub each : list_all is_made draft.steps ≡ true
  pub steps : step_count draft.steps ≤ most_steps
  pub rounds : (n : ℕ) → draft.rounds ≡ Some n → n ≤ most_rounds

both : (a b : Bool) → a ≡ true → b ≡ true → (a && (b && true)) ≡ true
both a b h k = rw (h) rw (k) refl

with_step_bounded : (targets : List TargetScript) (draft new : Drafted) (s : Actor × ℕ) → IsBounded targets draft → is_step_there targets s ≡ true
    → is_made s ≡ true → with_step draft s ≡ Ok new → IsBounded targets new
with_step_bounded targets draft new s b t m h =
    let p = passed (nat_le (step_count draft.steps + s.1) most_steps) (record draft { steps = draft.steps ++ s ∷ [] }) new TooMany h in
    let few = p.0 in
    let sum = one_more draft.steps s in
    subst (IsBounded targets) p.1
    record {
      there = list_all-append (is_step_there targets) draft.steps (s ∷ []) ∙ both (list_all (is_step_there targets) draft.steps) (is_step_there targets s) b.there t;
      each = list_all-append is_made draft.steps (s ∷ []) ∙ both (list_all is_made draft.steps) (is_made s) b.each m;
      steps = grind (arith, nat_tests, few, sum);
      rounds = b.rounds;
    }

line_by_bounded : (targets : List TargetScript) (draft new : Drafted) (first : List ℕ) (line words : Lexemes) → IsBounded targets draft
    → line_by targets draft first line words ≡ Ok new → IsBounded targets new
unfolding line_by
line_by_bounded targets draft new first line words b h = by_words (is_word (codes "step") first) (is_word (codes "rounds") first) h
  where
    by_words : (p q : Bool)
        → cond p (add_steps targets draft words)
        (cond q (last_number 0 most_rounds words >>= λ n. Ok (with_rounds draft n)) (fails line (UnknownWord Unknown))) ≡ Ok new
        → IsBounded targets new
    by_words true q h =
        let s = made (step targets words) (λ s. at_token (last_word words) (with_step draft s)) new h in
        with_step_bounded targets draft new s.0 b (step_there targets words s.0 s.1) (step_made targets words s.0 s.1)
        (at_made (last_word words) (with_step draft s.0) new s.2)
    by_words false true h =
        let n = made (last_number 0 most_rounds words) (λ n. Ok (with_rounds draft n)) new h in
        subst (IsBounded targets) (ok_same (with_rounds draft n.0) new n.2)
        record { there = b.there; each = b.each; steps = b.steps; rounds = λ m e. let same : n.0 ≡ m = cc in subst (λ k. k ≤ most_rounds) same (last_most 0 most_rounds words n.0 n.1) }
    by_words false false h = absurd cc

line_bounded : (targets : List TargetScript) (draft new : Drafted) (line : Lexemes) → IsBounded targets draft → line_of targets draft line ≡ Ok new
    → IsBounded targets new
unfolding line_of
line_bounded targets draft new line b h = by_rounds (has_rounds draft) h
  where
    by_rounds : (told : Bool)
        → cond told (fails line (UnknownWord Misplaced)) (any_word_at line >>= λ first. line_by targets draft first.0 line first.1) ≡ Ok new → IsBounded targets new
    by_rounds true h = absurd cc
    by_rounds false h =
        let w = made (any_word_at line) (λ first. line_by targets draft first.0 line first.1) new h in
        line_by_bounded targets draft new w.0.0 line w.0.1 b w.2

lines_bounded : (targets : List TargetScript) (version : ℕ) (draft new : Drafted) (lines : List NumberedLine) → IsBounded targets draft
    → read_lines (grammar targets) version draft lines ≡ Ok new → IsBounded targets new
unfolding read_lines
lines_bounded targets version draft new [] b h = subst (IsBounded targets) (ok_same draft new h) b
lines_bounded targets version draft new (line ∷ lines) b h =
    let read = add_line targets draft line in
    let m = made (on_line by_words line read) (λ more. read_lines (grammar targets) version more lines) new h in
    lines_bounded targets version m.0 new lines (line_bounded targets draft m.0 (words_of line.text) b (on_this line read m.0 m.1)) m.2

by_bounded : (targets : List TargetScript) (lines : List NumberedLine) (draft : Drafted) → read_by (grammar targets) lines ≡ Ok draft → IsBounded targets draft
by_bounded targets [] draft h = absurd cc
by_bounded targets (first ∷ lines) draft h =
    let m = made (on_line by_words first (schedule_version first.text)) (λ version. read_lines (grammar targets) version nothing lines) draft h in
    lines_bounded targets m.0 nothing draft lines record { there = refl; each = refl; steps = omega arith; rounds = λ n e. absurd cc } m.2

-- what is within its bounds of a schedule that is read
record IsRead (targets : List TargetScript) (schedule : Schedule) : Type 0 where
  there : list_all (is_step_there targets) schedule.steps ≡ true
  each : list_all is_made schedule.steps ≡ true
  steps : step_count schedule.steps ≤ most_steps
  rounds : schedule.rounds ≤ most_rounds

is_read : (targets : List TargetScript) (text : List ℕ) (schedule : Schedule) → reading targets text ≡ Ok schedule → IsRead targets schedule
is_read targets text schedule h =
    let d = made (read_by (grammar targets) (lines_of text)) (λ draft. finished (length (raw_lines text)) draft) schedule h in
    let b = by_bounded targets (lines_of text) d.0 d.1 in
    by_rounds d.0.steps d.0.rounds b.there b.each b.steps b.rounds d.2
  where
    by_rounds : (steps : List (Actor × ℕ)) (rounds : Option ℕ) → list_all (is_step_there targets) steps ≡ true → list_all is_made steps ≡ true → step_count steps ≤ most_steps
        → ((n : ℕ) → rounds ≡ Some n → n ≤ most_rounds)
        → finished (length (raw_lines text)) (record { steps = steps; rounds = rounds }) ≡ Ok schedule → IsRead targets schedule
    by_rounds steps None t m s r h = absurd cc
    by_rounds steps (Some n) t m s r h =
        subst (IsRead targets) (ok_same (record { steps = steps; rounds = n }) schedule h) record { there = t; each = m; steps = s; rounds = r n refl }

pub actors_are_there : ActorsAreThere
actors_are_there targets text schedule h = (is_read targets text schedule h).there

pub actors_make_steps : ActorsMakeSteps
actors_make_steps targets text schedule h = (is_read targets text schedule h).each

pub steps_are_counted : StepsAreCounted
steps_are_counted targets text schedule h = (is_read targets text schedule h).steps

pub rounds_are_counted : RoundsAreCounted
rounds_are_counted targets text schedule h = (is_read targets text schedule h).rounds

-- what holds of each value that is wanted holds of what was read
pub holds_if_read : {A : Type 0} (P : A → Type 0) (wanted : Result A ScheduleFault) (result : Result A (Refused ScheduleFault)) → ((x : A) → wanted ≡ Ok x → P x)
    → Gives wanted result → IfOk result P
holds_if_read P wanted (Ok x) f h = f x h
holds_if_read P wanted (Err refused) f h = tt
