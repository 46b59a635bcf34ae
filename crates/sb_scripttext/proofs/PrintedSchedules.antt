-- The text of a schedule is read as this schedule.
use Rattle.std.proofs.Common.{◌≡◌, ◌∙◌, ℕ, suc, ◌+◌, ◌≤◌, nat_le, true, cond, List, [], ◌∷◌, ◌++◌, Some, None, Option, Ok, Err, Result, length, map, ap, refl, subst, sym, arith}
use Rattle.std.proofs.lemmas.Bool.{and_from, and_parts}
use Rattle.std.specs.Fmt.{decimal}
use Rattle.std.specs.List.{list_all}
use Rattle.std.specs.Prelude.{codes}
use Rattle.std.proofs.lemmas.Bool.Decides.{nat_tests}
use Rattle.std.proofs.lemmas.List.{append_assoc, append-nil}
use Rattle.std.proofs.lemmas.List.Folds.{list_all-append}
use Rattle.std.proofs.lemmas.List.Sums.{sum_by-cons}
use Rattle.sb_scripttext.specs.ScheduleDrafts.{Drafted, step_count, with_step, finished}
use Rattle.sb_scripttext.specs.ScheduleLimits.{most_steps, most_rounds}
use Rattle.sb_scripttext.specs.ScheduleLines.{count_at, last_number, step, line_by, line_of}
use Rattle.sb_scripttext.specs.SchedulePrinting.{actor_word, version_words, step_words, rounds_words, schedule_lines, written, is_actor_of_values, is_made, in_order}
use Rattle.sb_scripttext.specs.SchedulePrintingLaws.{WrittenSchedulesAreRead, OrdersAreRead, ReadSchedulesAreReadAgain}
use Rattle.sb_scripttext.specs.ScheduleTexts.{ScheduleFault, grammar}
use Rattle.sb_scripttext.specs.declared.schedule_faults.ScheduleKind.{ScheduleKind}
use Rattle.sb_scripttext.specs.declared.schedule_faults.ScheduleKind.TheVariants.{UnknownActor, UnknownWord, TooMany}
use Rattle.sb_statements.specs.Actors.{is_there, is_step_there}
use Rattle.sb_statements.specs.declared.schedules.Actor.{Actor}
use Rattle.sb_statements.specs.declared.schedules.Schedule.{Schedule}
use Rattle.sb_statements.specs.declared.scripts.TargetScript.{TargetScript}
use Rattle.sb_text.specs.Lines.{NumberedLine, raw_lines}
use Rattle.sb_text.specs.NumberLaws.{DecimalsAreRead}
use Rattle.sb_text.specs.Readings.{on_line, read_lines, read_by}
use Rattle.sb_text.specs.Steps.{◌>>=◌, at_token, end_at, or_fails, version_at}
use Rattle.sb_text.specs.TokenLaws.{placed}
use Rattle.sb_text.specs.Tokens.{Lexemes, Word, by_words}
use Rattle.sb_text.specs.declared.refusals.TokenFault.{TokenFault}
use Rattle.sb_text.specs.declared.refusals.WordFault.TheVariants.{Broken, Extra, NoVersion}
use Rattle.sb_text.specs.PlainLines.{PlainLinesAreRead, PlainWordsAreRead, words_line}
use Rattle.sb_scripttext.proofs.ScheduleBounds.{actors_are_there, actors_make_steps, steps_are_counted, rounds_are_counted}
use Rattle.sb_scripttext.proofs.ScheduleCounts.{one_more}
use Rattle.sb_scripttext.proofs.PrintedActors.{actor_plain, actor_read, decimal_plain, within_back}
use Rattle.sb_scripttext.proofs.PrintedScheduleLines.{is_plain_line, numbered, lines_back}

-- the laws of texts that the proof uses
pub record Laws : Type 0 where
  pub lines : PlainLinesAreRead
  pub words : PlainWordsAreRead
  pub numbers : DecimalsAreRead

-- what was read before any line `rounds`
abbrev drafted : List (Actor × ℕ) → Drafted
drafted steps = record { steps = steps; rounds = None }

-- and with it
abbrev told : List (Actor × ℕ) → ℕ → Drafted
told steps n = record { steps = steps; rounds = Some n }

at_most : (n most : ℕ) → n ≤ most → nat_le n most ≡ true
at_most n most h = grind (arith, nat_tests)

-- a count of steps, and one of rounds

-- the words of a line, from one on
abbrev words_at : List (List ℕ) → Lexemes
words_at words = placed (map Word words)

-- what `last_number` does with a number, after which the line ends
abbrev ended : Lexemes → Result ℕ ScheduleKind → Result ℕ (TokenFault ScheduleKind)
ended due read = at_token due read >>= λ n. end_at (UnknownWord Extra) (UnknownWord Broken) (placed []) >>= λ end. Ok n

count_read : DecimalsAreRead → (n : ℕ) → nat_le 1 n ≡ true → n ≤ 100000 → count_at (words_at (decimal n ∷ [])) ≡ Ok n
count_read law n one most =
    ap (ended (words_at (decimal n ∷ [])))
    (within_back law 1 most_steps n (omega (arith, most)) (and_from (nat_le 1 n) (nat_le n most_steps) one (at_most n most_steps most)))

least : (n : ℕ) → nat_le 0 n ≡ true
least n = grind (arith, nat_tests)

rounds_read : DecimalsAreRead → (n : ℕ) → n ≤ 20000000 → last_number 0 most_rounds (words_at (decimal n ∷ [])) ≡ Ok n
rounds_read law n most =
    ap (ended (words_at (decimal n ∷ [])))
    (within_back law 0 most_rounds n (omega (arith, most)) (and_from (nat_le 0 n) (nat_le n most_rounds) (least n) (at_most n most_rounds most)))

-- an actor and its count

step_read : DecimalsAreRead → (targets : List TargetScript) (actor : Actor) (n : ℕ) → is_there targets actor ≡ true → is_actor_of_values actor ≡ true
    → nat_le 1 n ≡ true → n ≤ 100000 → step targets (words_at (actor_word actor ∷ decimal n ∷ [])) ≡ Ok (actor, n)
step_read law targets actor n there small one most =
    ap (λ (read : Option Actor). or_fails (words_at (actor_word actor ∷ decimal n ∷ [])) UnknownActor read >>= λ actor. count_at (words_at (decimal n ∷ []))
    >>= λ n. Ok (actor, n)) (actor_read law targets actor there small)
    ∙ ap (λ (read : Result ℕ (TokenFault ScheduleKind)). read >>= λ n. Ok (actor, n)) (count_read law n one most)

room : (done : List (Actor × ℕ)) (s : Actor × ℕ) → nat_le (step_count done + s.1) most_steps ≡ true → with_step (drafted done) s ≡ Ok (drafted (done ++ s ∷ []))
room done s h = ap {B = Result Drafted ScheduleKind} (λ t. cond t (Ok (drafted (done ++ s ∷ []))) (Err TooMany)) h

-- the lines

step_line : DecimalsAreRead → (targets : List TargetScript) (done : List (Actor × ℕ)) (s : Actor × ℕ) → is_step_there targets s ≡ true → is_made s ≡ true
    → s.1 ≤ 100000 → nat_le (step_count done + s.1) most_steps ≡ true → line_of targets (drafted done) (words_at (step_words s)) ≡ Ok (drafted (done ++ s ∷ []))
unfolding line_of line_by
step_line law targets done s there made most few =
    let last = words_at (decimal s.1 ∷ []) in
    ap (λ (read : Result (Actor × ℕ) (TokenFault ScheduleKind)). read >>= λ s. at_token last (with_step (drafted done) s))
    (step_read law targets s.0 s.1 there (and_parts _ _ made).0 (and_parts _ _ made).1 most)
    ∙ ap (at_token last) (room done s few)

rounds_line : DecimalsAreRead → (targets : List TargetScript) (steps : List (Actor × ℕ)) (n : ℕ) → n ≤ 20000000
    → line_of targets (drafted steps) (words_at (rounds_words n)) ≡ Ok (told steps n)
unfolding line_of line_by
rounds_line law targets steps n most = ap (λ (read : Result ℕ (TokenFault ScheduleKind)). read >>= λ n. Ok (told steps n)) (rounds_read law n most)

step_plain : DecimalsAreRead → (s : Actor × ℕ) → is_made s ≡ true → s.1 ≤ 100000 → is_plain_line (step_words s) ≡ true
step_plain law s made most = and_from _ _ (actor_plain law s.0 (and_parts _ _ made).0) (and_from _ _ (decimal_plain law s.1 (omega (arith, most))) refl)

rounds_plain : DecimalsAreRead → (n : ℕ) → n ≤ 20000000 → is_plain_line (rounds_words n) ≡ true
rounds_plain law n most = and_from _ _ (decimal_plain law n (omega (arith, most))) refl

-- a line is read, and then those after it
line_read : Laws → (targets : List TargetScript) (draft more : Drafted) (n : ℕ) (words : List (List ℕ)) (lines : List (List (List ℕ))) → is_plain_line words ≡ true
    → line_of targets draft (words_at words) ≡ Ok more → read_lines (grammar targets) 1 draft (numbered n (words ∷ lines)) ≡ read_lines (grammar targets) 1 more (numbered (n + 1) lines)
unfolding read_lines
line_read laws targets draft more n words lines p e =
    ap (λ (found : Lexemes). on_line by_words (record { number = n; text = words_line words }) (line_of targets draft found) >>= λ more. read_lines (grammar targets) 1 more (numbered (n + 1) lines)) (laws.words words p)
    ∙ ap (λ (r : Result Drafted (TokenFault ScheduleKind)). on_line by_words (record { number = n; text = words_line words }) r >>= λ more. read_lines (grammar targets) 1 more (numbered (n + 1) lines)) e

-- the steps of a schedule, after those that were read
steps_read : Laws → (targets : List TargetScript) (done : List (Actor × ℕ)) (n : ℕ) (steps : List (Actor × ℕ)) (lines : List (List (List ℕ)))
    → list_all (is_step_there targets) steps ≡ true → list_all is_made steps ≡ true → step_count done + step_count steps ≤ 100000
    → read_lines (grammar targets) 1 (drafted done) (numbered n (map step_words steps ++ lines))
    ≡ read_lines (grammar targets) 1 (drafted (done ++ steps)) (numbered (n + length steps) lines)
steps_read laws targets done n [] lines there made few =
    ap (λ steps. read_lines (grammar targets) 1 (drafted steps) (numbered n lines)) (sym (append-nil done))
    ∙ ap (λ m. read_lines (grammar targets) 1 (drafted (done ++ [])) (numbered m lines)) {x = n} {y = n + 0} (omega arith)
steps_read laws targets done n (s ∷ steps) lines there made few =
    let sum = sum_by-cons (λ (s : Actor × ℕ). s.1) s steps in
    let more = one_more done s in
    let most : s.1 ≤ 100000 = omega (arith, few, sum) in
    let within : step_count done + s.1 ≤ 100000 = omega (arith, few, sum) in
    let after : step_count (done ++ s ∷ []) + step_count steps ≤ 100000 = omega (arith, few, sum, more) in
    line_read laws targets (drafted done) (drafted (done ++ s ∷ [])) n (step_words s) (map step_words steps ++ lines)
    (step_plain laws.numbers s (and_parts _ _ made).0 most)
    (step_line laws.numbers targets done s (and_parts _ _ there).0 (and_parts _ _ made).0 most (at_most (step_count done + s.1) most_steps within))
    ∙ steps_read laws targets (done ++ s ∷ []) (n + 1) steps lines (and_parts _ _ there).1 (and_parts _ _ made).1 after
    ∙ ap (λ all. read_lines (grammar targets) 1 (drafted all) (numbered (n + 1 + length steps) lines)) (append_assoc done (s ∷ []) steps)
    ∙ ap (λ m. read_lines (grammar targets) 1 (drafted (done ++ s ∷ steps)) (numbered m lines)) {x = n + 1 + length steps} {y = n + suc (length steps)} (omega arith)

steps_plain : DecimalsAreRead → (steps : List (Actor × ℕ)) → list_all is_made steps ≡ true → step_count steps ≤ 100000 → list_all is_plain_line (map step_words steps) ≡ true
steps_plain law [] made few = refl
steps_plain law (s ∷ steps) made few =
    let sum = sum_by-cons (λ (s : Actor × ℕ). s.1) s steps in
    and_from _ _ (step_plain law s (and_parts _ _ made).0 (omega (arith, few, sum))) (steps_plain law steps (and_parts _ _ made).1 (omega (arith, few, sum)))

-- all lines below the first
body_read : Laws → (targets : List TargetScript) (steps : List (Actor × ℕ)) (n : ℕ) → list_all (is_step_there targets) steps ≡ true → list_all is_made steps ≡ true
    → step_count steps ≤ 100000 → n ≤ 20000000
    → read_lines (grammar targets) 1 (drafted []) (numbered 2 (map step_words steps ++ rounds_words n ∷ [])) ≡ Ok (told steps n)
unfolding read_lines
body_read laws targets steps n there made few most =
    steps_read laws targets [] 2 steps (rounds_words n ∷ []) there made (omega (arith, few))
    ∙ line_read laws targets (drafted steps) (told steps n) (2 + length steps) (rounds_words n) [] (rounds_plain laws.numbers n most) (rounds_line laws.numbers targets steps n most)

lines_plain : DecimalsAreRead → (schedule : Schedule) → list_all is_made schedule.steps ≡ true → step_count schedule.steps ≤ 100000 → schedule.rounds ≤ 20000000
    → list_all is_plain_line (schedule_lines schedule) ≡ true
lines_plain law schedule made few most =
    list_all-append is_plain_line (map step_words schedule.steps) (rounds_words schedule.rounds ∷ [])
    ∙ and_from _ _ (steps_plain law schedule.steps made few) (and_from _ _ (rounds_plain law schedule.rounds most) refl)

pub written_read : Laws → WrittenSchedulesAreRead
written_read laws targets schedule there made few most =
    let plain = lines_plain laws.numbers schedule made few most in
    let below = numbered 2 (map step_words schedule.steps ++ rounds_words schedule.rounds ∷ []) in
    let count = length (raw_lines (written schedule)) in
    ap (λ (lines : List NumberedLine). read_by (grammar targets) lines >>= λ draft. finished count draft) (lines_back laws.lines (schedule_lines schedule) plain)
    ∙ ap (λ (found : Lexemes). (on_line by_words (record { number = 1; text = words_line version_words }) (version_at (UnknownWord NoVersion) (codes "sandbox-schedule") 1 found)
    >>= λ version. read_lines (grammar targets) version (drafted []) below) >>= λ draft. finished count draft)
    (laws.words version_words refl)
    ∙ ap (λ (read : Result Drafted ScheduleFault). read >>= λ draft. finished count draft) (body_read laws targets schedule.steps schedule.rounds there made few most)

-- one step of each actor

abbrev one_each : List Actor → List (Actor × ℕ)
one_each actors = map (λ actor. (actor, 1)) actors

each_there : (targets : List TargetScript) (actors : List Actor) → list_all (is_there targets) actors ≡ true → list_all (is_step_there targets) (one_each actors) ≡ true
each_there targets [] h = refl
each_there targets (actor ∷ actors) h = and_from _ _ (and_parts _ _ h).0 (each_there targets actors (and_parts _ _ h).1)

pub each_made : (actors : List Actor) → list_all is_actor_of_values actors ≡ true → list_all is_made (one_each actors) ≡ true
each_made [] h = refl
each_made (actor ∷ actors) h = and_from _ _ (and_from (is_actor_of_values actor) (nat_le 1 1) (and_parts _ _ h).0 refl) (each_made actors (and_parts _ _ h).1)

one_more_step : (n : ℕ) → 1 + n ≡ suc n
one_more_step n = omega arith

pub as_many : (actors : List Actor) → step_count (one_each actors) ≡ length actors
as_many [] = omega arith
as_many (actor ∷ actors) =
    sum_by-cons (λ (s : Actor × ℕ). s.1) (actor, 1) (one_each actors) ∙ ap (λ n. 1 + n) (as_many actors) ∙ one_more_step (length actors)

pub orders_read : Laws → OrdersAreRead
orders_read laws targets actors n there small few most =
    written_read laws targets (in_order actors n) (each_there targets actors there) (each_made actors small) (subst (λ m. m ≤ 100000) (sym (as_many actors)) few) most

-- what is read can be written
pub read_again : Laws → ReadSchedulesAreReadAgain
read_again laws targets text schedule h =
    written_read laws targets schedule (actors_are_there targets text schedule h) (actors_make_steps targets text schedule h) (steps_are_counted targets text schedule h)
    (rounds_are_counted targets text schedule h)
