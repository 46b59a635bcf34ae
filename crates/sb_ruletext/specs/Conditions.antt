-- The conditions of rules.
use Rattle.std.specs.Prelude.{ℕ, ◌&&◌, ◌==◌, Bool, true, false, nat_le, List, [], ◌∷◌, length, Option, None, Some, option_map, Result, Ok, Err, if◌then◌else◌, codes}
use Rattle.sb_call.specs.Arguments.{kind_at}
use Rattle.sb_call.specs.declared.tags.CallTag.{CallTag}
use Rattle.sb_rule.specs.PatternReading.{reading}
use Rattle.sb_rule.specs.declared.cells.Cell.{Cell}
use Rattle.sb_rule.specs.declared.pattern_faults.PatternFault.{PatternFault}
use Rattle.sb_rule.specs.declared.pattern_faults.PatternFault.TheVariants.{DoubleStar, StarQuestion, TooLong}
use Rattle.sb_rule.specs.PatternLimits.{most_units}
use Rattle.sb_rule.specs.Limits.{most_conditions, most_numbers}
use Rattle.sb_call.specs.Parameters.{is_number_kind}
use Rattle.sb_rule.specs.declared.conditions.Cond.{Cond}
use Rattle.sb_rule.specs.declared.conditions.Test.{Test}
use Rattle.sb_rule.specs.declared.conditions.Test.TheVariants.{OneOf, Range, Mask, Equal, Like}
use Rattle.sb_ruletext.specs.Steps.{word_or, quoted_or, line_end, joined_at}
use Rattle.sb_call.specs.CallWords.{is_word}
use Rattle.sb_ruletext.specs.Words.{parameter_of}
use Rattle.sb_ruletext.specs.declared.faults.PolicyFaultKind.{PolicyFaultKind}
use Rattle.sb_ruletext.specs.declared.faults.PolicyLimit.TheVariants.{Conditions, Numbers}
use Rattle.sb_ruletext.specs.declared.faults.FitDue.TheVariants as fit_due
use Rattle.sb_ruletext.specs.declared.faults.WordDue.TheVariants as word_due
use Rattle.sb_ruletext.specs.declared.faults.PolicyFaultKind.TheVariants.{UnknownWord, OtherWord, UnknownParam, WrongKind, BadNumber, NoRange, EmptyRange, BadPattern}
use Rattle.sb_text.specs.Numbers.{number_of}
use Rattle.sb_text.specs.Columns.{fails, fails_within}
use Rattle.sb_text.specs.Steps.{◌>>=◌, or_fault, or_fails, at_token, Read, begins_with, later}
use Rattle.sb_text.specs.Tokens.{Lexemes, string_of}
use Rattle.sb_text.specs.declared.refusals.TokenFault.{TokenFault}
use Rattle.sb_text.specs.declared.refusals.WordFault.TheVariants.{Quoted}

-- N: a number
abbrev pub number_at : Lexemes → Read ℕ PolicyFaultKind
number_at tokens = do
  (word, rest) ← word_or (WrongKind fit_due.Number) tokens
  n ← or_fails tokens BadNumber (number_of word)
  Ok (n, rest)

-- N or N ..
abbrev pub numbers_at : Lexemes → Read (List ℕ) PolicyFaultKind
numbers_at tokens = joined_at Numbers most_numbers (codes "or") number_at tokens

-- what follows `..`, if the word begins with it
abbrev pub after_dots : List ℕ → Option (List ℕ)
after_dots (b ∷ c ∷ bs) = if b == 46 && c == 46 then Some bs else None
after_dots _ = None

-- a byte, and what is around the first `..` from it on: nothing before it if `..` is here
abbrev pub around_from : ℕ → Option (List ℕ) → Option (List ℕ × List ℕ) → Option (List ℕ × List ℕ)
around_from b (Some after) ends = Some ([], after)
around_from b None ends = option_map (λ ends. (b ∷ ends.0, ends.1)) ends

-- what is before the first `..` of a word, and what is after it
abbrev pub around_dots : List ℕ → Option (List ℕ × List ℕ)
around_dots [] = None
around_dots (b ∷ bs) = around_from b (after_dots (b ∷ bs)) (around_dots bs)

-- LO to HI, if LO is not above HI
abbrev pub range : ℕ → ℕ → Result Test PolicyFaultKind
range lo hi = if nat_le lo hi then Ok (Range lo hi) else Err EmptyRange

-- LO..HI: two numbers joined by `..`. Each fault is one of the whole word
abbrev pub range_of : List ℕ → Result Test PolicyFaultKind
range_of word = do
  (before, after) ← or_fault NoRange (around_dots word)
  lo ← or_fault NoRange (number_of before)
  hi ← or_fault NoRange (number_of after)
  range lo hi

-- LO..HI as one word
abbrev pub range_at : Lexemes → Read Test PolicyFaultKind
range_at tokens = do
  (word, rest) ← word_or (WrongKind fit_due.Number) tokens
  test ← at_token tokens (range_of word)
  Ok (test, rest)

-- what is between quotes, as a string of a policy
abbrev pub string : List ℕ → Result (List ℕ) PolicyFaultKind
string quoted = if nat_le (length (string_of quoted)) most_units then Ok (string_of quoted) else Err (BadPattern TooLong)

-- the fault of a pattern between quotes is at its star; that of a text that is too long, at its opening quote
abbrev pub pattern_fault : {A : Type 0} → Lexemes → PatternFault → Result A (TokenFault PolicyFaultKind)
pattern_fault tokens (DoubleStar unit) = fails_within tokens unit (BadPattern (DoubleStar unit))
pattern_fault tokens (StarQuestion unit) = fails_within tokens unit (BadPattern (StarQuestion unit))
pattern_fault tokens TooLong = fails tokens (BadPattern TooLong)

-- the cells of a pattern, or its fault in the quoted token that was due
abbrev pub cells : Lexemes → Result (List Cell) PatternFault → Result (List Cell) (TokenFault PolicyFaultKind)
cells tokens (Ok pattern) = Ok pattern
cells tokens (Err fault) = pattern_fault tokens fault

-- "P": the cells of a pattern, if a quoted token is here. A word in its place has this fault
abbrev pub cells_at : PolicyFaultKind → Lexemes → Read (List Cell) PolicyFaultKind
cells_at word tokens = do
  (quoted, rest) ← quoted_or word tokens
  pattern ← cells tokens (reading (string_of quoted))
  Ok (pattern, rest)

-- "S": a string
abbrev pub string_at : Lexemes → Read Test PolicyFaultKind
string_at tokens = do
  (quoted, rest) ← quoted_or (WrongKind fit_due.Text) tokens
  text ← at_token tokens (string quoted)
  Ok (Equal text, rest)

-- "P": a pattern
abbrev pub pattern_at : Lexemes → Read Test PolicyFaultKind
pattern_at tokens = cells_at (WrongKind fit_due.Text) tokens >>= λ (cells, rest). Ok (Like cells, rest)

-- `is` and its value, on a number or on a string
abbrev pub is_at : Bool → Lexemes → Read Test PolicyFaultKind
is_at true tokens = numbers_at tokens >>= λ (numbers, rest). Ok (OneOf numbers, rest)
is_at false tokens = string_at tokens

-- `in` and its value; the first list begins with the test word, which does not fit a string
abbrev pub in_at : Bool → Lexemes → Lexemes → Read Test PolicyFaultKind
in_at true tokens rest = range_at rest
in_at false tokens rest = fails tokens (WrongKind fit_due.TextTest)

-- `has` and its value
abbrev pub has_at : Bool → Lexemes → Lexemes → Read Test PolicyFaultKind
has_at true tokens rest = number_at rest >>= λ (mask, after). Ok (Mask mask, after)
has_at false tokens rest = fails tokens (WrongKind fit_due.TextTest)

-- `like` and its value
abbrev pub like_at : Bool → Lexemes → Lexemes → Read Test PolicyFaultKind
like_at true tokens rest = fails tokens (WrongKind fit_due.NumberTest)
like_at false tokens rest = pattern_at rest

-- a test word, and a value that fits it; the first argument tells whether the parameter is a number
unfoldable pub test_at : Bool → Lexemes → Read Test PolicyFaultKind
test_at is_number tokens = do
  (word, rest) ← word_or (UnknownWord Quoted) tokens
  if is_word (codes "is") word then is_at is_number rest
      else (if is_word (codes "in") word then in_at is_number tokens rest
      else (if is_word (codes "has") word then has_at is_number tokens rest
      else (if is_word (codes "like") word then like_at is_number tokens rest
      else fails tokens (OtherWord word_due.Test))))

-- the name of a parameter of the call
abbrev pub parameter_at : CallTag → Lexemes → Read ℕ PolicyFaultKind
parameter_at tag tokens = do
  (word, rest) ← word_or (UnknownParam tag) tokens
  param ← or_fails tokens (UnknownParam tag) (parameter_of tag word)
  Ok (param, rest)

-- the parameter of a call is a number
abbrev pub is_number_at : CallTag → ℕ → Bool
is_number_at tag param = is_number_kind (kind_at tag param)

-- a parameter, a test word and a value
abbrev pub plain_condition_at : Bool → CallTag → Lexemes → Read Cond PolicyFaultKind
plain_condition_at negated tag tokens = do
  (param, rest) ← parameter_at tag tokens
  (test, after) ← test_at (is_number_at tag param) rest
  Ok (record { param = param; negated = negated; test = test }, after)

-- COND: an optional `not` before them
unfoldable pub condition_at : CallTag → Lexemes → Read Cond PolicyFaultKind
condition_at tag tokens =
    if begins_with (codes "not") tokens then plain_condition_at true tag (later tokens) else plain_condition_at false tag tokens

-- COND and COND ..
abbrev pub conditions_at : CallTag → Lexemes → Read (List Cond) PolicyFaultKind
conditions_at tag tokens = joined_at Conditions most_conditions (codes "and") (condition_at tag) tokens

-- the same up to the line's end
abbrev pub conditions_of : CallTag → Lexemes → Result (List Cond) (TokenFault PolicyFaultKind)
conditions_of tag tokens = do
  (conds, rest) ← conditions_at tag tokens
  end ← line_end rest
  Ok conds
