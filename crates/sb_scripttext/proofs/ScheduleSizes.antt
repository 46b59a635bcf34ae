-- How long the text of a schedule is.
use Rattle.std.proofs.Common.{◌≡◌, ℕ, ◌+◌, ◌*◌, ◌<◌, ◌≤◌, nat_le, true, List, [], ◌∷◌, ◌++◌, length, length-append, map, arith}
use Rattle.std.specs.Fmt.{decimal}
use Rattle.std.specs.List.{flat_map, list_all}
use Rattle.std.specs.Prelude.{codes}
use Rattle.std.proofs.lemmas.Bool.{and_parts}
use Rattle.std.proofs.lemmas.Bool.Decides.{nat_tests}
use Rattle.std.proofs.lemmas.Fmt.{length-decimal-le, length-decimal-le_succ}
use Rattle.std.proofs.lemmas.List.Sums.{sum_by-cons}
use Rattle.sb_scripttext.proofs.PrintedSchedules.{as_many, each_made}
use Rattle.sb_scripttext.specs.ScheduleDrafts.{step_count}
use Rattle.sb_scripttext.specs.SchedulePrinting.{actor_word, in_order, is_actor_of_values, is_made, rounds_words, step_words, version_words}
use Rattle.sb_base.specs.Numbers.{is_word32}
use Rattle.sb_scripttext.specs.SchedulePrintingLaws.{OrdersAreShort, WrittenSchedulesAreShort}
use Rattle.sb_text.specs.PlainLines.{words_text}
use Rattle.sb_statements.specs.declared.schedules.Actor.{Actor}
use Rattle.sb_statements.specs.declared.schedules.Actor.TheVariants.{Worker, Thread}

-- a line of three words, and one of two
three : (s a d : List ℕ) → length ((s ++ 32 ∷ (a ++ 32 ∷ d)) ++ 10 ∷ []) ≡ length s + length a + length d + 3
three s a d =
    let whole = length-append (s ++ 32 ∷ (a ++ 32 ∷ d)) (10 ∷ []) in
    let first = length-append s (32 ∷ (a ++ 32 ∷ d)) in
    let second = length-append a (32 ∷ d) in
    omega (arith, whole, first, second)

two : (s d : List ℕ) → length ((s ++ 32 ∷ d) ++ 10 ∷ []) ≡ length s + length d + 2
two s d =
    let whole = length-append (s ++ 32 ∷ d) (10 ∷ []) in
    let first = length-append s (32 ∷ d) in
    omega (arith, whole, first)

-- a number of 32 bits has at most ten digits
below : (n : ℕ) → is_word32 n ≡ true → n < 4294967296
below n h = grind (arith, nat_tests, h)

ten_digits : (n : ℕ) → is_word32 n ≡ true → length (decimal n) ≤ 10
ten_digits n h =
    let l = below n h in
    length-decimal-le 10 n (omega arith) (omega (arith, l)) (omega (arith, l))

-- the word of an actor
actor_short : (actor : Actor) → is_actor_of_values actor ≡ true → length (actor_word actor) ≤ 22
actor_short (Worker target) h = let d = ten_digits target h in omega (arith, d)
actor_short (Thread target thread) h =
    let parts = and_parts (is_word32 target) (is_word32 thread) h in
    let first = ten_digits target parts.0 in
    let second = ten_digits thread parts.1 in
    let both = length-append (decimal target) (46 ∷ decimal thread) in
    omega (arith, first, second, both)

-- the line of an entry has at most 31 bytes for each of its steps
step_short : (step : Actor × ℕ) → is_made step ≡ true → step.1 < 18446744073709551616 → length (words_text (step_words step)) ≤ 31 * step.1
step_short step h l =
    let parts = and_parts (is_actor_of_values step.0) (nat_le 1 step.1) h in
    let some : 1 ≤ step.1 = grind (arith, nat_tests, parts) in
    let actor = actor_short step.0 parts.0 in
    let count = length-decimal-le_succ step.1 (omega (arith, l)) in
    let line = three (codes "step") (actor_word step.0) (decimal step.1) in
    omega (arith, some, actor, count, line)

-- the lines of all entries
steps_short : (steps : List (Actor × ℕ)) (more : List (List (List ℕ))) → list_all is_made steps ≡ true → step_count steps < 18446744073709551616
    → length (flat_map words_text (map step_words steps ++ more)) ≤ 31 * step_count steps + length (flat_map words_text more)
steps_short [] more h l = omega arith
steps_short (step ∷ steps) more h l =
    let parts = and_parts (is_made step) (list_all is_made steps) h in
    let sum = sum_by-cons (λ (s : Actor × ℕ). s.1) step steps in
    let first = step_short step parts.0 (omega (arith, l, sum)) in
    let rest = steps_short steps more parts.1 (omega (arith, l, sum)) in
    let both = length-append (words_text (step_words step)) (flat_map words_text (map step_words steps ++ more)) in
    omega (arith, sum, first, rest, both)

-- the last line
rounds_short : (n : ℕ) → n ≤ 20000000 → length (flat_map words_text (rounds_words n ∷ [])) ≤ 17
rounds_short n l =
    let digits = length-decimal-le 8 n (omega arith) (omega (arith, l)) (omega (arith, l)) in
    let line = two (codes "rounds") (decimal n) in
    let all = length-append (words_text (rounds_words n)) [] in
    omega (arith, digits, line, all)

pub written_short : WrittenSchedulesAreShort
written_short schedule made few rounds =
    let first = length-append (words_text version_words) (flat_map words_text (map step_words schedule.steps ++ rounds_words schedule.rounds ∷ [])) in
    let version = two (codes "sandbox-schedule") (codes "1") in
    let steps = steps_short schedule.steps (rounds_words schedule.rounds ∷ []) made (omega (arith, few)) in
    let last = rounds_short schedule.rounds rounds in
    omega (arith, first, version, steps, few, last)

pub orders_short : OrdersAreShort
orders_short actors rounds h few most =
    let count = as_many actors in
    written_short (in_order actors rounds) (each_made actors h) (omega (arith, count, few)) most
