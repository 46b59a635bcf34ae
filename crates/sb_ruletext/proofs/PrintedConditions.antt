-- The conditions that are printed are read as they were.
use Rattle.std.proofs.Common.{◌≡◌, ◌∙◌, ℕ, zero, suc, ◌^◌, ◌<◌, ◌≤◌, nat_le, Bool, true, false, not, cond, if◌then◌else◌, List, [], ◌∷◌, ◌++◌, Ok, Err, length, ap, refl, sym, arith}
use Rattle.std.specs.Bool.{beq}
use Rattle.std.specs.List.{flat_map, list_all}
use Rattle.std.specs.Prelude.{codes}
use Rattle.std.proofs.lemmas.Bool.{false≢true, and_parts}
use Rattle.std.proofs.lemmas.Bool.Decides.{nat_tests}
use Rattle.sb_call.specs.declared.tags.CallTag.{CallTag}
use Rattle.sb_call.specs.declared.tags.CallTag.TheVariants.{Ping, FileCreate, FileOpen, FileQuery, FileRename, PipeCreate, KeyCreate, KeyOpen, EventCreate, EventOpen, HandleClose}
use Rattle.sb_rule.specs.PatternReading.{text_of, reading, is_pattern}
use Rattle.sb_rule.specs.declared.cells.Cell.{Cell}
use Rattle.sb_rule.specs.declared.pattern_faults.PatternFault.TheVariants.{TooLong}
use Rattle.sb_rule.specs.WellMade.{is_number_test, is_sensible, is_well_formed, is_policy_text, is_like_text}
use Rattle.sb_rule.specs.declared.conditions.Cond.{Cond}
use Rattle.sb_rule.specs.declared.conditions.Test.{Test}
use Rattle.sb_rule.specs.declared.conditions.Test.TheVariants.{OneOf, Range, Mask, Equal, Like}
use Rattle.sb_text.specs.NumberLaws.{HexadecimalsAreRead}
use Rattle.sb_text.specs.TokenLaws.{placed}
use Rattle.sb_text.specs.Tokens.{Lexeme, Lexemes, Word, Quoted, utf8_of, string_of}
use Rattle.sb_rule.specs.PatternLimits.{most_units}
use Rattle.sb_ruletext.specs.Conditions.{number_at, string, cells, test_at, is_number_at, plain_condition_at, condition_at, conditions_of}
use Rattle.sb_call.specs.Parameters.{parameter_word, parameter_words}
use Rattle.sb_ruletext.specs.Printing.{number_word, range_word, numbers_tokens, test_tokens, not_tokens, cond_tokens, joined_tokens}
use Rattle.sb_ruletext.specs.Values.{is_test_of_values}
use Rattle.sb_base.specs.Numbers.{is_word64}
use Rattle.sb_ruletext.specs.Steps.{joined_at}
use Rattle.sb_text.specs.Steps.{◌>>=◌, or_fails, at_token, Read, begins_with, later, end_at}
use Rattle.sb_text.specs.declared.refusals.WordFault.TheVariants.{Extra, Broken}
use Rattle.sb_call.specs.CallWords.{is_word}
use Rattle.sb_ruletext.specs.declared.faults.PolicyFaultKind.{PolicyFaultKind}
use Rattle.sb_ruletext.specs.declared.faults.PolicyFaultKind.TheVariants.{UnknownWord, UnknownParam, BadNumber, BadPattern}
use Rattle.sb_ruletext.specs.declared.faults.PolicyLimit.{PolicyLimit}
use Rattle.sb_ruletext.specs.declared.faults.PolicyLimit.TheVariants.{Conditions, Numbers}
use Rattle.sb_text.specs.Strings.{ComesBack, StringsComeBack}
use Rattle.sb_ruletext.proofs.PrintedWords.{parameter_back, apart_at, within, number_back, range_back}

pub number_small : (n : ℕ) → is_word64 n ≡ true → n < 2 ^ 64
number_small n h = grind (arith, nat_tests)

-- numbers

number_read : HexadecimalsAreRead → (n : ℕ) (rest : List Lexeme) → is_word64 n ≡ true
    → number_at (placed (Word (number_word n) ∷ rest)) ≡ Ok (n, placed rest)
number_read law n rest h = ap (λ o. or_fails (placed (Word (number_word n) ∷ rest)) BadNumber o >>= λ n. Ok (n, placed rest)) (number_back law n (number_small n h))

-- what `joined_at` does after the first of at most m + 1 items
abbrev and_others : {A : Type 0} → PolicyLimit → ℕ → List ℕ → (Lexemes → Read A PolicyFaultKind) → A × Lexemes → Read (List A) PolicyFaultKind
and_others limit m joint item_at first =
    cond (begins_with joint first.1) (joined_at limit m joint item_at (later first.1) >>= λ others. Ok (first.0 ∷ others.0, others.1)) (Ok (first.0 ∷ [], first.1))

joined_step : {A : Type 0} (limit : PolicyLimit) (m : ℕ) (joint : List ℕ) (item_at : Lexemes → Read A PolicyFaultKind) (tokens : Lexemes)
    → joined_at limit (suc m) joint item_at tokens ≡ item_at tokens >>= and_others limit m joint item_at
unfolding joined_at
joined_step limit m joint item_at tokens = refl

numbers_read : HexadecimalsAreRead → (m n : ℕ) (more : List ℕ) (rest : List Lexeme) → length more ≤ m → list_all is_word64 (n ∷ more) ≡ true
    → begins_with (codes "or") (placed rest) ≡ false → joined_at Numbers (suc m) (codes "or") number_at (placed (numbers_tokens (n ∷ more) ++ rest)) ≡ Ok (n ∷ more, placed rest)
numbers_read law m n [] rest k h e =
    joined_step Numbers m (codes "or") number_at (placed (Word (number_word n) ∷ rest))
    ∙ ap (λ r. r >>= and_others Numbers m (codes "or") number_at) (number_read law n rest (and_parts _ _ h).0)
    ∙ ap (λ t. cond t (joined_at Numbers m (codes "or") number_at (later (placed rest)) >>= λ others. Ok (n ∷ others.0, others.1)) (Ok (n ∷ [], placed rest))) e
numbers_read law zero n (next ∷ more) rest k h e = absurd (omega arith)
numbers_read law (suc m) n (next ∷ more) rest k h e =
    joined_step Numbers (suc m) (codes "or") number_at (placed (Word (number_word n) ∷ Word (codes "or") ∷ (numbers_tokens (next ∷ more) ++ rest)))
    ∙ ap (λ r. r >>= and_others Numbers (suc m) (codes "or") number_at) (number_read law n (Word (codes "or") ∷ (numbers_tokens (next ∷ more) ++ rest)) (and_parts _ _ h).0)
    ∙ ap (λ r. r >>= λ others. Ok (n ∷ others.0, others.1)) (numbers_read law m next more rest (omega arith) (and_parts _ _ h).1 e)

-- strings and patterns

-- the text of a pattern is read as that pattern
abbrev pub PatternsComeBack : Type 0
PatternsComeBack = (cells : List Cell) → is_pattern cells ≡ true → reading (text_of cells) ≡ Ok cells

-- the laws of lower crates that the proofs on values use
pub record Texts : Type 0 where
  pub numbers : HexadecimalsAreRead
  pub strings : StringsComeBack
  pub patterns : PatternsComeBack

-- a string of a policy comes back
pub string_back : StringsComeBack → (us : List ℕ) → is_policy_text us ≡ true → ComesBack us
string_back law us h = law us (and_parts _ _ (and_parts _ _ h).0).1 (and_parts _ _ h).1

string_read : StringsComeBack → (us : List ℕ) → is_policy_text us ≡ true → string (utf8_of us) ≡ Ok us
string_read law us h =
    let back = (string_back law us h).string in
    let few : nat_le (length us) most_units ≡ true = (and_parts _ _ (and_parts _ _ h).0).0 in
    ap (λ us. cond (nat_le (length us) most_units) (Ok us) (Err (BadPattern TooLong))) back ∙ ap (λ t. cond t (Ok us) (Err (BadPattern TooLong))) few

pattern_read : Texts → (tokens : Lexemes) (cs : List Cell) → is_like_text cs ≡ true → cells tokens (reading (string_of (utf8_of (text_of cs)))) ≡ Ok cs
pattern_read laws tokens cs h =
    ap (λ us. cells tokens (reading us)) (string_back laws.strings (text_of cs) (and_parts _ _ h).1).string ∙ ap (cells tokens) (laws.patterns cs (and_parts _ _ h).0)

-- tests

-- a pattern, and the tokens after it
abbrev then_cells : Lexemes → List Cell → Read (List Cell) PolicyFaultKind
then_cells tokens pattern = Ok (pattern, tokens)

-- the test of such a pattern
abbrev liked : List Cell × Lexemes → Read Test PolicyFaultKind
liked read = Ok (Like read.0, read.1)

test_read : Texts → (test : Test) (rest : List Lexeme) → is_sensible test ≡ true → is_test_of_values test ≡ true
    → begins_with (codes "or") (placed rest) ≡ false → test_at (is_number_test test) (placed (test_tokens test ++ rest)) ≡ Ok (test, placed rest)
unfolding test_at
test_read laws (OneOf []) rest s v e = absurd (false≢true s)
test_read laws (OneOf (n ∷ more)) rest s v e =
    ap (λ r. r >>= λ numbers. Ok (OneOf numbers.0, numbers.1)) (numbers_read laws.numbers 15 n more rest (few more s) v e)
  where
    few : (more : List ℕ) → is_sensible (OneOf (n ∷ more)) ≡ true → length more ≤ 15
    few more s = grind (arith, nat_tests)
test_read laws (Range lo hi) rest s v e =
    ap (λ r. at_token (placed (Word (range_word lo hi) ∷ rest)) r >>= λ test. Ok (test, placed rest)) (range_back laws.numbers lo hi (number_small lo (and_parts _ _ v).0) (number_small hi (and_parts _ _ v).1) s)
test_read laws (Mask mask) rest s v e = ap (λ r. r >>= λ mask. Ok (Mask mask.0, mask.1)) (number_read laws.numbers mask rest v)
test_read laws (Equal text) rest s v e = ap (λ r. at_token (placed (Quoted (utf8_of text) ∷ rest)) r >>= λ text. Ok (Equal text, placed rest)) (string_read laws.strings text s)
test_read laws (Like pattern) rest s v e =
    ap (λ r. (r >>= then_cells (placed rest)) >>= liked) (pattern_read laws (placed (Quoted (utf8_of (text_of pattern)) ∷ rest)) pattern s)

-- conditions

none_is_not : (tag : CallTag) → list_all (λ word. not (is_word (codes "not") word)) (parameter_words tag) ≡ true
none_is_not Ping = refl
none_is_not FileCreate = refl
none_is_not FileOpen = refl
none_is_not FileQuery = refl
none_is_not FileRename = refl
none_is_not PipeCreate = refl
none_is_not KeyCreate = refl
none_is_not KeyOpen = refl
none_is_not EventCreate = refl
none_is_not EventOpen = refl
none_is_not HandleClose = refl

-- the kind of the parameter is that of the test
of_its_kind : (a b : Bool) → beq a b ≡ true → b ≡ a
of_its_kind true true h = refl
of_its_kind true false h = h
of_its_kind false true h = sym h
of_its_kind false false h = refl

-- a parameter, and the tokens after it
abbrev then_tokens : Lexemes → ℕ → Read ℕ PolicyFaultKind
then_tokens tokens param = Ok (param, tokens)

-- the condition with this test
abbrev with_test : ℕ → Bool → Test × Lexemes → Read Cond PolicyFaultKind
with_test param negated test = Ok (record { param = param; negated = negated; test = test.0 }, test.1)

plain_read : Texts → (negated : Bool) (tag : CallTag) (cond : Cond) (rest : List Lexeme)
    → is_well_formed tag cond ≡ true → is_test_of_values cond.test ≡ true → begins_with (codes "or") (placed rest) ≡ false
    → plain_condition_at negated tag (placed (Word (parameter_word tag cond.param) ∷ (test_tokens cond.test ++ rest)))
    ≡ Ok (record { param = cond.param; negated = negated; test = cond.test }, placed rest)
plain_read laws negated tag cond rest h v e =
    let tokens = placed (test_tokens cond.test ++ rest) in
    let kind = of_its_kind (is_number_test cond.test) (is_number_at tag cond.param) (and_parts _ _ (and_parts _ _ h).1).0 in
    ap (λ o. (or_fails (placed (Word (parameter_word tag cond.param) ∷ (test_tokens cond.test ++ rest))) (UnknownParam tag) o >>= then_tokens tokens) >>= λ param. test_at (is_number_at tag param.0) param.1 >>= with_test param.0 negated)
    (parameter_back tag cond.param (and_parts _ _ h).0)
    ∙ ap (λ t. test_at t tokens >>= with_test cond.param negated) kind
    ∙ ap (λ r. r >>= with_test cond.param negated) (test_read laws cond.test rest (and_parts _ _ (and_parts _ _ h).1).1 v e)

condition_read : Texts → (tag : CallTag) (cond : Cond) (rest : List Lexeme)
    → is_well_formed tag cond ≡ true → is_test_of_values cond.test ≡ true → begins_with (codes "or") (placed rest) ≡ false
    → condition_at tag (placed (cond_tokens tag cond ++ rest)) ≡ Ok (cond, placed rest)
unfolding condition_at
condition_read laws tag cond rest h v e = by_not cond.negated (λ negated. plain_read laws negated tag cond rest h v e)
  where
    by_not : (negated : Bool)
        → ((negated : Bool) → plain_condition_at negated tag (placed (Word (parameter_word tag cond.param) ∷ (test_tokens cond.test ++ rest)))
        ≡ Ok (record { param = cond.param; negated = negated; test = cond.test }, placed rest))
        → condition_at tag (placed ((not_tokens negated ++ Word (parameter_word tag cond.param) ∷ test_tokens cond.test) ++ rest))
        ≡ Ok (record { param = cond.param; negated = negated; test = cond.test }, placed rest)
    by_not true f = f true
    by_not false f =
        let other = apart_at (codes "not") (parameter_words tag) cond.param (none_is_not tag) (within tag cond.param (and_parts _ _ h).0) in
        let tokens = placed (Word (parameter_word tag cond.param) ∷ (test_tokens cond.test ++ rest)) in
        ap (λ t. if t then plain_condition_at true tag (later tokens) else plain_condition_at false tag tokens) other ∙ f false

-- conditions of a call whose numbers and units are those of values
pub record AreSound (tag : CallTag) (conds : List Cond) : Type 0 where
  pub formed : list_all (is_well_formed tag) conds ≡ true
  pub values : list_all (λ cond. is_test_of_values cond.test) conds ≡ true

abbrev and_tokens : CallTag → List Cond → List Lexeme
and_tokens tag conds = flat_map (joined_tokens (codes "and") tag) conds

pub later_sound : (tag : CallTag) (cond : Cond) (conds : List Cond) → AreSound tag (cond ∷ conds) → AreSound tag conds
later_sound tag cond conds s = record { formed = (and_parts _ _ s.formed).1; values = (and_parts _ _ s.values).1 }

joined_read : Texts → (m : ℕ) (tag : CallTag) (cond : Cond) (more : List Cond)
    → length more ≤ m → AreSound tag (cond ∷ more)
    → joined_at Conditions (suc m) (codes "and") (condition_at tag) (placed (cond_tokens tag cond ++ and_tokens tag more)) ≡ Ok (cond ∷ more, placed [])
joined_read laws m tag cond [] k s =
    joined_step Conditions m (codes "and") (condition_at tag) (placed (cond_tokens tag cond ++ []))
    ∙ ap (λ r. r >>= and_others Conditions m (codes "and") (condition_at tag)) (condition_read laws tag cond [] (and_parts _ _ s.formed).0 (and_parts _ _ s.values).0 refl)
joined_read laws zero tag cond (next ∷ more) k s = absurd (omega arith)
joined_read laws (suc m) tag cond (next ∷ more) k s =
    let rest = Word (codes "and") ∷ (cond_tokens tag next ++ and_tokens tag more) in
    joined_step Conditions (suc m) (codes "and") (condition_at tag) (placed (cond_tokens tag cond ++ rest))
    ∙ ap (λ r. r >>= and_others Conditions (suc m) (codes "and") (condition_at tag)) (condition_read laws tag cond rest (and_parts _ _ s.formed).0 (and_parts _ _ s.values).0 refl)
    ∙ ap (λ r. r >>= λ others. Ok (cond ∷ others.0, others.1)) (joined_read laws m tag next more (omega arith) (later_sound tag cond (next ∷ more) s))

pub conditions_read : Texts → (tag : CallTag) (cond : Cond) (more : List Cond)
    → length more ≤ 7 → AreSound tag (cond ∷ more) → conditions_of tag (placed (cond_tokens tag cond ++ and_tokens tag more)) ≡ Ok (cond ∷ more)
conditions_read laws tag cond more k s =
    ap (λ (r : Read (List Cond) PolicyFaultKind). r >>= λ conds. end_at (UnknownWord Extra) (UnknownWord Broken) conds.1 >>= λ end. Ok conds.0) (joined_read laws 7 tag cond more k s)
