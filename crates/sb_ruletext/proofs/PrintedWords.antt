-- The words that are printed are read as what they mean.
use Rattle.std.proofs.Common.{◌≡◌, ◌∙◌, ℕ, zero, suc, ◌+◌, ◌^◌, ◌<◌, ◌==◌, nat_lt, nat_le, Bool, true, false, not, cond, ◌&&◌, List, [], ◌∷◌, ◌++◌, None, Some, Option, Ok, Result, length, slice_index_or, ap, refl, sym, arith}
use Rattle.std.specs.Cmp.Lexicographic.{bytes_decides}
use Rattle.std.specs.Fmt.{digits}
use Rattle.std.specs.List.{list_all}
use Rattle.std.specs.Prelude.{option_map}
use Rattle.std.proofs.lemmas.Bool.{false≢true, and_from, and_parts}
use Rattle.std.proofs.lemmas.Bool.Decides.{nat_tests}
use Rattle.std.proofs.lemmas.List.Folds.{list_all-append}
use Rattle.sb_call.specs.Tags.{shape_of}
use Rattle.sb_call.specs.declared.tags.CallTag.{CallTag}
use Rattle.sb_call.specs.declared.tags.CallTag.TheVariants.{Ping, FileCreate, FileOpen, FileQuery, FileRename, PipeCreate, KeyCreate, KeyOpen, EventCreate, EventOpen, HandleClose}
use Rattle.sb_rule.specs.declared.actions.Action.{Action}
use Rattle.sb_rule.specs.declared.actions.Action.TheVariants.{Allow, Deny, Alarm, Fake, ReadOnly}
use Rattle.sb_text.specs.NumberLaws.{HexadecimalsAreRead}
use Rattle.sb_text.specs.Numbers.{is_hexadecimal_digit, number_of}
use Rattle.sb_ruletext.specs.Conditions.{after_dots, around_from, around_dots, range, range_of}
use Rattle.sb_call.specs.Parameters.{parameter_word, parameter_words}
use Rattle.sb_ruletext.specs.Printing.{number_word, range_word, is_read_only}
use Rattle.sb_call.specs.CallWords.{is_word, call_word, tag_of_word}
use Rattle.sb_rule.specs.Actions.{action_word}
use Rattle.sb_ruletext.specs.Words.{place_of, action_of, parameter_of}
use Rattle.sb_text.specs.Steps.{◌>>=◌, or_fault}
use Rattle.sb_ruletext.specs.declared.faults.PolicyFaultKind.{PolicyFaultKind}
use Rattle.sb_ruletext.specs.declared.faults.PolicyFaultKind.TheVariants.{NoRange}
use Rattle.sb_rule.specs.declared.conditions.Test.{Test}
use Rattle.sb_rule.specs.declared.conditions.Test.TheVariants.{Range}
use Rattle.sb_text.specs.PlainLines.{is_plain_byte}
use Rattle.sb_ruletext.proofs.Conjunctions.{all_more}

pub is_itself : (word : List ℕ) → is_word word word ≡ true
is_itself word = (bytes_decides word word).1 refl

-- actions and calls

pub action_back : (action : Action) → action_of 2 (action_word action) ≡ Some action
action_back Allow = refl
action_back Deny = refl
action_back Alarm = refl
action_back Fake = refl
action_back ReadOnly = refl

pub first_action_back : (action : Action) → is_read_only action ≡ false → action_of 1 (action_word action) ≡ Some action
first_action_back Allow h = refl
first_action_back Deny h = refl
first_action_back Alarm h = refl
first_action_back Fake h = refl
first_action_back ReadOnly h = absurd (false≢true (sym h))

pub call_back : (tag : CallTag) → tag_of_word (call_word tag) ≡ Some tag
call_back Ping = refl
call_back FileCreate = refl
call_back FileOpen = refl
call_back FileQuery = refl
call_back FileRename = refl
call_back PipeCreate = refl
call_back KeyCreate = refl
call_back KeyOpen = refl
call_back EventCreate = refl
call_back EventOpen = refl
call_back HandleClose = refl

-- parameters

-- no word is in a list twice
abbrev are_apart : List (List ℕ) → Bool
are_apart [] = true
are_apart (word ∷ words) = list_all (λ other. not (is_word word other)) words && are_apart words

pub not_true : (t : Bool) → not t ≡ true → t ≡ false
not_true false h = refl
not_true true h = sym h

pub apart_at : (word : List ℕ) (words : List (List ℕ)) (i : ℕ) → list_all (λ other. not (is_word word other)) words ≡ true → i < length words
    → is_word word (slice_index_or words i []) ≡ false
apart_at word [] i h k = absurd (omega arith)
apart_at word (other ∷ words) zero h k = not_true _ (and_parts _ _ h).0
apart_at word (other ∷ words) (suc i) h k = apart_at word words i (and_parts _ _ h).1 (omega arith)

place_back : (words : List (List ℕ)) (i : ℕ) → are_apart words ≡ true → i < length words → place_of words (slice_index_or words i []) ≡ Some i
place_back [] i h k = absurd (omega arith)
place_back (word ∷ words) zero h k = let e = is_itself word in rw (e) refl
place_back (word ∷ words) (suc i) h k =
    let e = apart_at word words i (and_parts _ _ h).0 (omega arith) in
    ap (λ t. cond t (Some 0) (option_map (λ n. n + 1) (place_of words (slice_index_or words i [])))) e
    ∙ ap (option_map (λ n. n + 1)) (place_back words i (and_parts _ _ h).1 (omega arith))
    ∙ ap Some {x = i + 1} {y = suc i} (omega arith)

words_apart : (tag : CallTag) → are_apart (parameter_words tag) ≡ true
words_apart Ping = refl
words_apart FileCreate = refl
words_apart FileOpen = refl
words_apart FileQuery = refl
words_apart FileRename = refl
words_apart PipeCreate = refl
words_apart KeyCreate = refl
words_apart KeyOpen = refl
words_apart EventCreate = refl
words_apart EventOpen = refl
words_apart HandleClose = refl

pub as_many : (tag : CallTag) → length (shape_of tag) ≡ length (parameter_words tag)
as_many Ping = refl
as_many FileCreate = refl
as_many FileOpen = refl
as_many FileQuery = refl
as_many FileRename = refl
as_many PipeCreate = refl
as_many KeyCreate = refl
as_many KeyOpen = refl
as_many EventCreate = refl
as_many EventOpen = refl
as_many HandleClose = refl

pub within : (tag : CallTag) (param : ℕ) → nat_lt param (length (shape_of tag)) ≡ true → param < length (parameter_words tag)
within tag param h = let e = as_many tag in grind (arith, nat_tests)

pub parameter_back : (tag : CallTag) (param : ℕ) → nat_lt param (length (shape_of tag)) ≡ true → parameter_of tag (parameter_word tag param) ≡ Some param
parameter_back tag param h = place_back (parameter_words tag) param (words_apart tag) (within tag param h)

-- numbers

made : (t : Bool) (x : Option ℕ) (n : ℕ) → cond t x None ≡ Some n → t ≡ true
made true x n e = refl
made false x n e = cc

pub number_back : HexadecimalsAreRead → (n : ℕ) → n < 2 ^ 64 → number_of (number_word n) ≡ Some n
number_back law n h = law n h

hexadecimal : HexadecimalsAreRead → (n : ℕ) → n < 2 ^ 64 → list_all is_hexadecimal_digit (digits 16 false n) ≡ true
hexadecimal law n h = (and_parts _ _ (made _ _ n (law n h))).1

digit_plain : (b : ℕ) → is_hexadecimal_digit b ≡ true → is_plain_byte b ≡ true
digit_plain b h = grind (arith, nat_tests)

digit_no_dot : (b : ℕ) → is_hexadecimal_digit b ≡ true → not (b == 46) ≡ true
digit_no_dot b h = grind (arith, nat_tests)

pub number_plain : HexadecimalsAreRead → (n : ℕ) → n < 2 ^ 64 → list_all is_plain_byte (number_word n) ≡ true
number_plain law n h = all_more is_hexadecimal_digit is_plain_byte digit_plain (digits 16 false n) (hexadecimal law n h)

number_no_dot : HexadecimalsAreRead → (n : ℕ) → n < 2 ^ 64 → list_all (λ b. not (b == 46)) (number_word n) ≡ true
number_no_dot law n h = all_more is_hexadecimal_digit (λ b. not (b == 46)) digit_no_dot (digits 16 false n) (hexadecimal law n h)

-- ranges

no_dots : (x c : ℕ) (bs : List ℕ) → (x == 46) ≡ false → after_dots (x ∷ c ∷ bs) ≡ None
no_dots x c bs h = rw (h) refl

dots_back : (a b : List ℕ) → list_all (λ c. not (c == 46)) a ≡ true → around_dots (a ++ 46 ∷ 46 ∷ b) ≡ Some (a, b)
dots_back [] b h = refl
dots_back (x ∷ []) b h = ap (λ after. around_from x after (Some ([], b))) (no_dots x 46 (46 ∷ b) (not_true _ (and_parts _ _ h).0))
dots_back (x ∷ y ∷ a) b h =
    ap (λ after. around_from x after (around_dots (y ∷ (a ++ 46 ∷ 46 ∷ b)))) (no_dots x y (a ++ 46 ∷ 46 ∷ b) (not_true _ (and_parts _ _ h).0))
    ∙ ap (around_from x None) (dots_back (y ∷ a) b (and_parts _ _ h).1)

-- the range of two ends
abbrev ranged : Option (List ℕ × List ℕ) → Result Test PolicyFaultKind
ranged ends = do
  ends ← or_fault NoRange ends
  lo ← or_fault NoRange (number_of ends.0)
  hi ← or_fault NoRange (number_of ends.1)
  range lo hi

ranged_numbers : (low high : Option ℕ) (lo hi : ℕ) → low ≡ Some lo → high ≡ Some hi → nat_le lo hi ≡ true
    → (or_fault NoRange low >>= λ lo. or_fault NoRange high >>= λ hi. range lo hi) ≡ Ok (Range lo hi)
ranged_numbers low high lo hi e f h = rw (e, f) rw (h) refl

pub range_back : HexadecimalsAreRead → (lo hi : ℕ) → lo < 2 ^ 64 → hi < 2 ^ 64 → nat_le lo hi ≡ true → range_of (range_word lo hi) ≡ Ok (Range lo hi)
range_back law lo hi l h k =
    ap ranged (dots_back (number_word lo) (number_word hi) (number_no_dot law lo l))
    ∙ ranged_numbers (number_of (number_word lo)) (number_of (number_word hi)) lo hi (number_back law lo l) (number_back law hi h) k

pub range_plain : HexadecimalsAreRead → (lo hi : ℕ) → lo < 2 ^ 64 → hi < 2 ^ 64 → list_all is_plain_byte (range_word lo hi) ≡ true
range_plain law lo hi l h = list_all-append is_plain_byte (number_word lo) (46 ∷ 46 ∷ number_word hi) ∙ and_from _ _ (number_plain law lo l) (number_plain law hi h)
