-- The words that are printed are read as what they mean.
use Rattle.std.proofs.Common.{◌≡◌, ◌∙◌, ℕ, suc, ◌+◌, ◌^◌, ◌<◌, nat_lt, nat_le, Bool, true, false, not, cond, ◌&&◌, List, [], ◌∷◌, ◌++◌, None, Some, Option, Ok, Err, Result, length, take, drop, ap, refl, sym, arith}
use Rattle.std.specs.Fmt.{decimal}
use Rattle.std.specs.List.{list_all, before_first, after_first, position_or_len}
use Rattle.std.specs.Prelude.{if◌then◌else◌}
use Rattle.std.proofs.lemmas.Bool.{false≢true, and_from, and_parts}
use Rattle.std.proofs.lemmas.Bool.Decides.{nat_tests}
use Rattle.std.proofs.lemmas.List.{take_at, drop_at, append_assoc, length_push}
use Rattle.std.proofs.lemmas.List.Folds.{list_all-append}
use Rattle.sb_scripttext.specs.Actors.{is_dot, number_32, worker_at, thread_at, thread_named, actor_named, where_there, actor_of}
use Rattle.sb_scripttext.specs.ScheduleLines.{within}
use Rattle.sb_scripttext.specs.SchedulePrinting.{actor_word, is_actor_of_values}
use Rattle.sb_base.specs.Numbers.{is_word32}
use Rattle.sb_scripttext.specs.declared.schedule_faults.ScheduleKind.{ScheduleKind}
use Rattle.sb_scripttext.specs.declared.schedule_faults.ScheduleKind.TheVariants.{BadNumber, OutOfRange}
use Rattle.sb_statements.specs.Actors.{is_there}
use Rattle.sb_statements.specs.declared.schedules.Actor.{Actor}
use Rattle.sb_statements.specs.declared.schedules.Actor.TheVariants.{Worker, Thread}
use Rattle.sb_statements.specs.declared.scripts.TargetScript.{TargetScript}
use Rattle.sb_text.specs.NumberLaws.{DecimalsAreRead}
use Rattle.sb_text.specs.Numbers.{is_decimal_digit}
use Rattle.sb_text.specs.TokenLaws.{is_some_word}
use Rattle.sb_scripttext.proofs.ScheduleConjunctions.{all_more}
use Rattle.sb_scripttext.proofs.PrintedScheduleLines.{is_plain}
use Rattle.sb_text.specs.PlainLines.{is_plain_byte}

-- decimal digits

was_some : (t : Bool) (x : Option ℕ) (n : ℕ) → cond t x None ≡ Some n → t ≡ true
was_some true x n e = refl
was_some false x n e = cc

some_word : (w : List ℕ) → nat_le 1 (length w) ≡ true → is_some_word w ≡ true
some_word [] h = absurd (false≢true h)
some_word (b ∷ w) h = refl

digit_plain : (b : ℕ) → is_decimal_digit b ≡ true → is_plain_byte b ≡ true
digit_plain b h = grind (arith, nat_tests)

digit_no_dot : (b : ℕ) → is_decimal_digit b ≡ true → not (is_dot b) ≡ true
digit_no_dot b h = grind (arith, nat_tests)

decimal_digits : DecimalsAreRead → (n : ℕ) → n < 2 ^ 64 → list_all is_decimal_digit (decimal n) ≡ true
decimal_digits law n h = (and_parts _ _ (was_some _ _ n (law n h).0)).1

decimal_some : DecimalsAreRead → (n : ℕ) → n < 2 ^ 64 → is_some_word (decimal n) ≡ true
decimal_some law n h = some_word (decimal n) (and_parts _ _ (and_parts _ _ (was_some _ _ n (law n h).0)).0).0

decimal_bytes : DecimalsAreRead → (n : ℕ) → n < 2 ^ 64 → list_all is_plain_byte (decimal n) ≡ true
decimal_bytes law n h = all_more is_decimal_digit is_plain_byte digit_plain (decimal n) (decimal_digits law n h)

pub decimal_plain : DecimalsAreRead → (n : ℕ) → n < 2 ^ 64 → is_plain (decimal n) ≡ true
decimal_plain law n h = and_from _ _ (decimal_some law n h) (decimal_bytes law n h)

decimal_no_dot : DecimalsAreRead → (n : ℕ) → n < 2 ^ 64 → list_all (λ b. not (is_dot b)) (decimal n) ≡ true
decimal_no_dot law n h = all_more is_decimal_digit (λ b. not (is_dot b)) digit_no_dot (decimal n) (decimal_digits law n h)

-- numbers of 32 bits

small : (n : ℕ) → is_word32 n ≡ true → n < 2 ^ 64
small n h = grind (arith, nat_tests)

-- a number below 2^32
abbrev pub below_2_32 : Option ℕ → Option ℕ
below_2_32 number = elim number [ None ↦ None | Some n ↦ if nat_lt n (2 ^ 32) then Some n else None ]

number_back : DecimalsAreRead → (n : ℕ) → is_word32 n ≡ true → number_32 (decimal n) ≡ Some n
number_back law n h = ap below_2_32 (law n (small n h)).0 ∙ ap {B = Option ℕ} (λ t. cond t (Some n) None) h

-- numbers from a least to a greatest

abbrev ranged : ℕ → ℕ → Option ℕ → Result ℕ ScheduleKind
ranged lo hi number = elim number [ None ↦ Err BadNumber | Some n ↦ if nat_le lo n && nat_le n hi then Ok n else Err (OutOfRange lo hi) ]

pub within_back : DecimalsAreRead → (lo hi n : ℕ) → n < 2 ^ 64 → (nat_le lo n && nat_le n hi) ≡ true → within lo hi (decimal n) ≡ Ok n
within_back law lo hi n small h = ap (ranged lo hi) (law n small).1 ∙ ap {B = Result ℕ ScheduleKind} (λ t. cond t (Ok n) (Err (OutOfRange lo hi))) h

-- what is before and after a dot

one_more : (n : ℕ) → 1 + n ≡ suc n
one_more n = omega arith

dot_behind : (a b : List ℕ) → list_all (λ x. not (is_dot x)) a ≡ true → position_or_len is_dot (a ++ 46 ∷ b) ≡ length a
dot_behind [] b h = refl
dot_behind (x ∷ a) b h =
    ap {B = ℕ} (λ t. cond t (1 + position_or_len is_dot (a ++ 46 ∷ b)) 0) (and_parts _ _ h).0
    ∙ ap (λ n. 1 + n) (dot_behind a b (and_parts _ _ h).1) ∙ one_more (length a)

before_back : (a b : List ℕ) → list_all (λ x. not (is_dot x)) a ≡ true → before_first is_dot (a ++ 46 ∷ b) ≡ a
before_back a b h = ap (λ n. take n (a ++ 46 ∷ b)) (dot_behind a b h) ∙ take_at a (46 ∷ b) (length a) refl

after_back : (a b : List ℕ) → list_all (λ x. not (is_dot x)) a ≡ true → after_first is_dot (a ++ 46 ∷ b) ≡ b
after_back a b h =
    ap (λ n. drop (n + 1) (a ++ 46 ∷ b)) (dot_behind a b h)
    ∙ ap (drop (length a + 1)) (sym (append_assoc a (46 ∷ []) b)) ∙ drop_at (a ++ 46 ∷ []) b (length a + 1) (length_push a 46)

-- actors

thread_back : (word a b : List ℕ) (t k : ℕ) → before_first is_dot word ≡ a → after_first is_dot word ≡ b → number_32 a ≡ Some t → number_32 b ≡ Some k
    → thread_named word ≡ Some (Thread t k)
thread_back word a b t k e f g h =
    ap (λ (z : List ℕ × List ℕ). thread_at (number_32 z.0) (number_32 z.1)) (λ j. (e j, f j))
    ∙ ap (λ (z : Option ℕ × Option ℕ). thread_at z.0 z.1) (λ j. (g j, h j))

actor_back : DecimalsAreRead → (actor : Actor) → is_actor_of_values actor ≡ true → actor_named (actor_word actor) ≡ Some actor
actor_back law (Worker t) h = ap worker_at (number_back law t h)
actor_back law (Thread t k) h =
    let plain = decimal_no_dot law t (small t (and_parts _ _ h).0) in
    thread_back (decimal t ++ 46 ∷ decimal k) (decimal t) (decimal k) t k (before_back (decimal t) (decimal k) plain) (after_back (decimal t) (decimal k) plain)
    (number_back law t (and_parts _ _ h).0) (number_back law k (and_parts _ _ h).1)

pub actor_read : DecimalsAreRead → (targets : List TargetScript) (actor : Actor) → is_there targets actor ≡ true → is_actor_of_values actor ≡ true
    → actor_of targets (actor_word actor) ≡ Some actor
actor_read law targets actor there h =
    ap (where_there targets) (actor_back law actor h) ∙ ap {B = Option Actor} (λ t. cond t (Some actor) None) there

pub actor_plain : DecimalsAreRead → (actor : Actor) → is_actor_of_values actor ≡ true → is_plain (actor_word actor) ≡ true
actor_plain law (Worker t) h = decimal_bytes law t (small t h)
actor_plain law (Thread t k) h =
    list_all-append is_plain_byte (decimal t) (46 ∷ decimal k)
    ∙ and_from _ _ (decimal_bytes law t (small t (and_parts _ _ h).0)) (decimal_bytes law k (small k (and_parts _ _ h).1))
