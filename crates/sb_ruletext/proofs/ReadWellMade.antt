-- What a text is read as is well made.
use Rattle.std.proofs.Common.{◌≡◌, refl, sym, ap, ◌∙◌, subst, arith, ℕ, zero, suc, ◌+◌, ◌<◌, ◌≤◌, List, [], ◌∷◌, ◌++◌, Bool, true, false, nat_le, nat_lt, cond, length, option_map, None, Some, Option, Result, Ok, Err, codes}
use Rattle.std.proofs.lemmas.Bool.{and_from, and_parts}
use Rattle.std.proofs.lemmas.Bool.Decides.{nat_tests}
use Rattle.std.proofs.lemmas.Str.{IsUtf8-from_is_utf8}
use Rattle.std.specs.Bool.{beq}
use Rattle.std.specs.List.{list_all, list_any}
use Rattle.std.specs.Str.{is_utf8}
use Rattle.sb_call.specs.CallWords.{is_word, tag_of_word}
use Rattle.sb_call.specs.Tags.{shape_of}
use Rattle.sb_call.specs.ShortNames.{is_short_name}
use Rattle.sb_call.specs.declared.tags.CallTag.{CallTag}
use Rattle.sb_rule.specs.PatternLimits.{most_units}
use Rattle.sb_rule.specs.PatternReading.{reading as cells_read, TextsComeBack, ReadingGivesPatterns}
use Rattle.sb_rule.specs.declared.cells.Cell.{Cell}
use Rattle.sb_rule.specs.declared.pattern_faults.PatternFault.{PatternFault}
use Rattle.sb_rule.specs.declared.pattern_faults.PatternFault.TheVariants.{DoubleStar, StarQuestion, TooLong}
use Rattle.sb_rule.specs.Limits.{most_conditions, most_numbers}
use Rattle.sb_rule.specs.WellMade.{is_policy_text, is_like_text, is_sensible, is_number_test, is_well_formed, is_for_readers, is_well_made_rule, are_well_made, is_named}
use Rattle.sb_base.specs.Wide.{is_text_unit}
use Rattle.sb_base.specs.Surrogates.{is_paired}
use Rattle.sb_rule.specs.declared.actions.Action.{Action}
use Rattle.sb_rule.specs.declared.conditions.Cond.{Cond}
use Rattle.sb_rule.specs.declared.conditions.Test.{Test}
use Rattle.sb_rule.specs.declared.conditions.Test.TheVariants.{OneOf, Range, Mask, Equal, Like}
use Rattle.sb_rule.specs.declared.policies.Policy.{Policy}
use Rattle.sb_rule.specs.declared.policies.Rule.{Rule}
use Rattle.sb_text.specs.Lines.{NumberedLine, lines_of}
use Rattle.sb_text.specs.Numbers.{number_of}
use Rattle.sb_text.specs.Readings.{read_lines, read_by, where_utf8, on_line}
use Rattle.sb_text.specs.Columns.{fails}
use Rattle.sb_text.specs.Steps.{◌>>=◌, or_fault, or_fails, unless_fails, at_token, Read, begins_with, later, is_end}
use Rattle.sb_text.specs.declared.refusals.TokenFault.{TokenFault}
use Rattle.sb_text.specs.declared.refusals.WordFault.TheVariants as wrong
use Rattle.sb_text.specs.TokenLaws.{is_quoted_byte, is_quoted_text, has_quoted_text, QuotedTokensAreText}
use Rattle.sb_text.specs.Tokens.{Lexemes, Next, End, Word, Quoted, Bad, by_tokens, lexemes, string_of, tokens_of}
use Rattle.sb_text.specs.Utf8.{Place, not_utf8_place}
use Rattle.sb_text.specs.declared.refusals.LineFault.{LineFault}
use Rattle.sb_call.specs.Parameters.{parameter_words}
use Rattle.sb_ruletext.specs.Conditions.{number_at, numbers_at, around_dots, range, range_of, range_at, string, cells, cells_at, string_at, pattern_at, is_at, in_at, has_at, like_at, test_at, parameter_at, is_number_at, plain_condition_at, condition_at, conditions_at, conditions_of}
use Rattle.sb_ruletext.specs.Grants.{grant_of, rules_of}
use Rattle.sb_ruletext.specs.Laws.{ReadPoliciesAreWellMade}
use Rattle.sb_ruletext.specs.Lines.{is_headed, new_name, name_at, with_policy, heading, call_at, first_word_fault, end_at_when, when_of, rule, grant_at, grant, with_last_rules, with_grant, with_rule, line_of}
use Rattle.sb_ruletext.specs.PolicyTexts.{add_line, grammar, policy_version}
use Rattle.sb_ruletext.specs.Steps.{word_or, quoted_or, line_end, joined_at}
use Rattle.sb_ruletext.specs.Words.{action_of, parameter_of, place_of}
use Rattle.sb_ruletext.specs.declared.faults.PolicyFaultKind.{PolicyFaultKind}
use Rattle.sb_ruletext.specs.declared.faults.FitDue.TheVariants as fit_due
use Rattle.sb_ruletext.specs.declared.faults.WordDue.TheVariants as word_due
use Rattle.sb_ruletext.specs.declared.faults.PolicyFaultKind.TheVariants.{NotUtf8, UnknownWord, OtherWord, UnknownCall, UnknownParam, WrongKind, BadNumber, NoRange, EmptyRange, BadPattern, TooMany, SameName, NoHeading, NotReadOnly}
use Rattle.sb_ruletext.specs.declared.faults.PolicyLimit.{PolicyLimit}
use Rattle.sb_ruletext.specs.declared.faults.PolicyLimit.TheVariants as limit
use Rattle.sb_ruletext.specs.declared.grants.Grant.{Grant}
use Rattle.sb_ruletext.proofs.Added.{last_rules, chosen, changed, added_nowhere, well_made_longer, well_made_more}
use Rattle.sb_ruletext.proofs.Patterns.{short_text, read_like}
use Rattle.sb_ruletext.proofs.PrintedWords.{as_many}
use Rattle.sb_text.specs.Strings.{QuotedStringsAreText}
use Rattle.sb_ruletext.proofs.WellMade.{granted_well_made, one_well_made}

-- steps

-- a step that was made, and what followed it
made : {A B K : Type 0} (first : Result A K) (next : A → Result B K) (y : B) → (first >>= next) ≡ Ok y → (x : A) × (first ≡ Ok x) × (next x ≡ Ok y)
made (Ok x) next y h = (x, refl, h)
made (Err kind) next y h = absurd cc

ok_same : {A K : Type 0} (x y : A) → ◌≡◌ {A = Result A K} (Ok x) (Ok y) → x ≡ y
ok_same x y h = cc

-- a test that was passed
passed : {A K : Type 0} (b : Bool) (x y : A) (kind : K) → cond b (Ok x) (Err kind) ≡ Ok y → (b ≡ true) × (x ≡ y)
passed true x y kind h = (refl, ok_same x y h)
passed false x y kind h = absurd cc

-- a value that was there, at a token
at_same : {A : Type 0} (tokens : Lexemes) (value : Result A PolicyFaultKind) (x : A) → at_token tokens value ≡ Ok x → value ≡ Ok x
at_same tokens (Ok x) y h = cc
at_same tokens (Err kind) y h = absurd cc

-- a test that held, at a token
held : (tokens : Lexemes) (kind : PolicyFaultKind) (b : Bool) (y : Unit {0}) → unless_fails tokens kind b ≡ Ok y → b ≡ true
held tokens kind true y h = refl
held tokens kind false y h = absurd cc

-- what holds of both branches
branches : {X : Type 0} (P : X → Type 0) (b : Bool) (x y : X) → P x → P y → P (cond b x y)
branches P true x y h k = h
branches P false x y h k = k

-- tokens

-- what quoted tokens hold is text
abbrev AreText : Lexemes → Type 0
AreText tokens = list_all is_quoted_text (lexemes tokens) ≡ true

later_text : (tokens : Lexemes) → AreText tokens → AreText (later tokens)
later_text (End place) t = refl
later_text (Next place token tokens) t = (and_parts (is_quoted_text token) (list_all is_quoted_text (lexemes tokens)) t).1

word_rest : (quoted : PolicyFaultKind) (tokens : Lexemes) (x : List ℕ × Lexemes) → word_or quoted tokens ≡ Ok x → AreText tokens → AreText x.1
word_rest quoted (Next place (Word w) tokens) x h t =
    subst (λ (y : List ℕ × Lexemes). AreText y.1) {x = (w, tokens)} (ok_same (w, tokens) x h) (and_parts (is_quoted_text (Word w)) (list_all is_quoted_text (lexemes tokens)) t).1
word_rest quoted (Next place (Quoted q) tokens) x h t = absurd cc
word_rest quoted (Next place Bad tokens) x h t = absurd cc
word_rest quoted (End place) x h t = absurd cc

-- what is between quotes, and the tokens after it
record QuotedFine (x : List ℕ × Lexemes) : Type 0 where
  text : is_quoted_text (Quoted x.0) ≡ true
  rest : AreText x.1

quoted_fine : (word : PolicyFaultKind) (tokens : Lexemes) (x : List ℕ × Lexemes) → quoted_or word tokens ≡ Ok x → AreText tokens → QuotedFine x
quoted_fine word (Next place (Quoted q) tokens) x h t =
    let parts = and_parts (is_quoted_text (Quoted q)) (list_all is_quoted_text (lexemes tokens)) t in
    subst QuotedFine {x = (q, tokens)} (ok_same (q, tokens) x h) (record { text = parts.0; rest = parts.1 })
quoted_fine word (Next place (Word w) tokens) x h t = absurd cc
quoted_fine word (Next place Bad tokens) x h t = absurd cc
quoted_fine word (End place) x h t = absurd cc

-- the laws of lower crates that the proofs on values use
pub record Texts : Type 0 where
  pub texts : TextsComeBack
  pub patterns : ReadingGivesPatterns
  pub strings : QuotedStringsAreText

-- the units of what is between quotes
units_fine : QuotedStringsAreText → (q : List ℕ) → is_quoted_text (Quoted q) ≡ true → (list_all is_text_unit (string_of q) ≡ true) × (is_paired (string_of q) ≡ true)
units_fine law q h =
    let parts = and_parts (is_utf8 q) (list_all is_quoted_byte q) h in
    law q (IsUtf8-from_is_utf8 q parts.0) parts.1

-- items that are joined by a word

record IsJoined {A : Type 0} (p : A → Bool) (most : ℕ) (x : List A × Lexemes) : Type 0 where
  some : 0 < length x.0
  few : length x.0 ≤ most
  each : list_all p x.0 ≡ true
  rest : AreText x.1

-- an item passes a test, and text follows it
record IsItem {A : Type 0} (p : A → Bool) (x : A × Lexemes) : Type 0 where
  item : p x.0 ≡ true
  rest : AreText x.1

joined_next : {A : Type 0} (p : A → Bool) (most : ℕ) (first : A) (rest : Lexemes) (b : Bool) (others : Read (List A) PolicyFaultKind) (x : List A × Lexemes)
    → p first ≡ true → AreText rest → ((y : List A × Lexemes) → others ≡ Ok y → IsJoined p most y)
    → cond b (others >>= λ others. Ok (first ∷ others.0, others.1)) (Ok (first ∷ [], rest)) ≡ Ok x → IsJoined p (suc most) x
joined_next p most first rest true others x i t f h =
    let o = made others (λ others. Ok (first ∷ others.0, others.1)) x h in
    let j = f o.0 o.1 in
    let few = j.few in
    subst (IsJoined p (suc most)) {x = (first ∷ o.0.0, o.0.1)} (ok_same (first ∷ o.0.0, o.0.1) x o.2)
    (record { some = omega arith; few = omega (arith, few); each = and_from _ _ i j.each; rest = j.rest })
joined_next p most first rest false others x i t f h =
    subst (IsJoined p (suc most)) {x = (first ∷ [], rest)} (ok_same (first ∷ [], rest) x h)
    (record { some = omega arith; few = omega arith; each = and_from _ _ i refl; rest = t })

joined_fine : {A : Type 0} (limit : PolicyLimit) (p : A → Bool) (item_at : Lexemes → Read A PolicyFaultKind)
    → ((tokens : Lexemes) (x : A × Lexemes) → item_at tokens ≡ Ok x → AreText tokens → IsItem p x)
    → (most : ℕ) (joint : List ℕ) (tokens : Lexemes) (x : List A × Lexemes) → joined_at limit most joint item_at tokens ≡ Ok x → AreText tokens → IsJoined p most x
unfolding joined_at
joined_fine limit p item_at f zero joint tokens x h t = absurd cc
joined_fine limit p item_at f (suc most) joint tokens x h t =
    let i = made (item_at tokens)
    (λ first. cond (begins_with joint first.1) (joined_at limit most joint item_at (later first.1) >>= λ others. Ok (first.0 ∷ others.0, others.1)) (Ok (first.0 ∷ [], first.1))) x h in
    let fine = f tokens i.0 i.1 t in
    joined_next p most i.0.0 i.0.1 (begins_with joint i.0.1) (joined_at limit most joint item_at (later i.0.1)) x fine.item fine.rest
    (λ y e. joined_fine limit p item_at f most joint (later i.0.1) y e (later_text i.0.1 fine.rest)) i.2

-- tests

-- a test is sensible and of this kind, and text follows it
record IsTest (is_number : Bool) (x : Test × Lexemes) : Type 0 where
  sensible : is_sensible x.0 ≡ true
  kind : is_number_test x.0 ≡ is_number
  rest : AreText x.1

abbrev Tests : Bool → Read Test PolicyFaultKind → Type 0
Tests is_number read = (x : Test × Lexemes) → read ≡ Ok x → IsTest is_number x

number_fine : (tokens : Lexemes) (x : ℕ × Lexemes) → number_at tokens ≡ Ok x → AreText tokens → IsItem (λ n. true) x
number_fine tokens x h t =
    let w = made (word_or (WrongKind fit_due.Number) tokens) (λ word. or_fails tokens BadNumber (number_of word.0) >>= λ n. Ok (n, word.1)) x h in
    let n = made (or_fails tokens BadNumber (number_of w.0.0)) (λ n. Ok (n, w.0.1)) x w.2 in
    subst (IsItem (λ n. true)) {x = (n.0, w.0.1)} (ok_same (n.0, w.0.1) x n.2) (record { item = refl; rest = word_rest (WrongKind fit_due.Number) tokens w.0 w.1 t })

list_fine : (numbers : List ℕ) → 0 < length numbers → length numbers ≤ 16 → is_sensible (OneOf numbers) ≡ true
list_fine numbers h k = grind (arith, nat_tests)

numbers_fine : (tokens : Lexemes) → AreText tokens → Tests true (numbers_at tokens >>= λ numbers. Ok (OneOf numbers.0, numbers.1))
numbers_fine tokens t x h =
    let n = made (numbers_at tokens) (λ numbers. Ok (OneOf numbers.0, numbers.1)) x h in
    let j = joined_fine limit.Numbers (λ n. true) number_at number_fine most_numbers (codes "or") tokens n.0 n.1 t in
    subst (IsTest true) {x = (OneOf n.0.0, n.0.1)} (ok_same (OneOf n.0.0, n.0.1) x n.2)
    (record { sensible = list_fine n.0.0 j.some j.few; kind = refl; rest = j.rest })

mask_fine : (tokens : Lexemes) → AreText tokens → Tests true (number_at tokens >>= λ mask. Ok (Mask mask.0, mask.1))
mask_fine tokens t x h =
    let n = made (number_at tokens) (λ mask. Ok (Mask mask.0, mask.1)) x h in
    subst (IsTest true) {x = (Mask n.0.0, n.0.1)} (ok_same (Mask n.0.0, n.0.1) x n.2)
    (record { sensible = refl; kind = refl; rest = (number_fine tokens n.0 n.1 t).rest })

-- a range that is not empty
record IsRange (test : Test) : Type 0 where
  sensible : is_sensible test ≡ true
  kind : is_number_test test ≡ true

range_fine : (word : List ℕ) (test : Test) → range_of word ≡ Ok test → IsRange test
range_fine word test h =
    let ends = made (or_fault NoRange (around_dots word))
    (λ ends. or_fault NoRange (number_of ends.0) >>= λ lo. or_fault NoRange (number_of ends.1) >>= λ hi. range lo hi) test h in
    let lo = made (or_fault NoRange (number_of ends.0.0)) (λ lo. or_fault NoRange (number_of ends.0.1) >>= λ hi. range lo hi) test ends.2 in
    let hi = made (or_fault NoRange (number_of ends.0.1)) (λ hi. range lo.0 hi) test lo.2 in
    let t = passed (nat_le lo.0 hi.0) (Range lo.0 hi.0) test EmptyRange hi.2 in
    subst IsRange {x = Range lo.0 hi.0} t.1 (record { sensible = t.0; kind = refl })

range_at_fine : (tokens : Lexemes) → AreText tokens → Tests true (range_at tokens)
range_at_fine tokens t x h =
    let w = made (word_or (WrongKind fit_due.Number) tokens) (λ word. at_token tokens (range_of word.0) >>= λ test. Ok (test, word.1)) x h in
    let r = made (at_token tokens (range_of w.0.0)) (λ test. Ok (test, w.0.1)) x w.2 in
    let fine = range_fine w.0.0 r.0 (at_same tokens (range_of w.0.0) r.0 r.1) in
    subst (IsTest true) {x = (r.0, w.0.1)} (ok_same (r.0, w.0.1) x r.2)
    (record { sensible = fine.sensible; kind = fine.kind; rest = word_rest (WrongKind fit_due.Number) tokens w.0 w.1 t })

string_fine : Texts → (q text : List ℕ) → is_quoted_text (Quoted q) ≡ true → string q ≡ Ok text → is_policy_text text ≡ true
string_fine laws q text t h =
    let p = passed (nat_le (length (string_of q)) most_units) (string_of q) text (BadPattern TooLong) h in
    subst (λ us. is_policy_text us ≡ true) p.1 (short_text (string_of q) p.0 (units_fine laws.strings q t))

cells_same : (tokens : Lexemes) (read : Result (List Cell) PatternFault) (cs : List Cell) → cells tokens read ≡ Ok cs → read ≡ Ok cs
cells_same tokens (Ok pattern) cs h = cc
cells_same tokens (Err (DoubleStar unit)) cs h = absurd cc
cells_same tokens (Err (StarQuestion unit)) cs h = absurd cc
cells_same tokens (Err TooLong) cs h = absurd cc

-- a pattern, and the tokens after it
record IsPattern (x : List Cell × Lexemes) : Type 0 where
  like : is_like_text x.0 ≡ true
  rest : AreText x.1

cells_fine : Texts → (word : PolicyFaultKind) (tokens : Lexemes) (x : List Cell × Lexemes) → cells_at word tokens ≡ Ok x → AreText tokens → IsPattern x
cells_fine laws word tokens x h t =
    let q = made (quoted_or word tokens) (λ quoted. cells tokens (cells_read (string_of quoted.0)) >>= λ pattern. Ok (pattern, quoted.1)) x h in
    let p = made (cells tokens (cells_read (string_of q.0.0))) (λ pattern. Ok (pattern, q.0.1)) x q.2 in
    let fine = quoted_fine word tokens q.0 q.1 t in
    subst IsPattern {x = (p.0, q.0.1)} (ok_same (p.0, q.0.1) x p.2) (record {
      like = read_like laws.texts laws.patterns (string_of q.0.0) p.0 (cells_same tokens (cells_read (string_of q.0.0)) p.0 p.1) (units_fine laws.strings q.0.0 fine.text);
      rest = fine.rest;
    })

string_at_fine : Texts → (tokens : Lexemes) → AreText tokens → Tests false (string_at tokens)
string_at_fine laws tokens t x h =
    let q = made (quoted_or (WrongKind fit_due.Text) tokens) (λ quoted. at_token tokens (string quoted.0) >>= λ text. Ok (Equal text, quoted.1)) x h in
    let s = made (at_token tokens (string q.0.0)) (λ text. Ok (Equal text, q.0.1)) x q.2 in
    let fine = quoted_fine (WrongKind fit_due.Text) tokens q.0 q.1 t in
    subst (IsTest false) {x = (Equal s.0, q.0.1)} (ok_same (Equal s.0, q.0.1) x s.2)
    (record { sensible = string_fine laws q.0.0 s.0 fine.text (at_same tokens (string q.0.0) s.0 s.1); kind = refl; rest = fine.rest })

pattern_at_fine : Texts → (tokens : Lexemes) → AreText tokens → Tests false (pattern_at tokens)
pattern_at_fine laws tokens t x h =
    let p = made (cells_at (WrongKind fit_due.Text) tokens) (λ read. Ok (Like read.0, read.1)) x h in
    let fine = cells_fine laws (WrongKind fit_due.Text) tokens p.0 p.1 t in
    subst (IsTest false) {x = (Like p.0.0, p.0.1)} (ok_same (Like p.0.0, p.0.1) x p.2)
    (record { sensible = fine.like; kind = refl; rest = fine.rest })

is_fine : Texts → (is_number : Bool) (tokens : Lexemes) → AreText tokens → Tests is_number (is_at is_number tokens)
is_fine laws true tokens t = numbers_fine tokens t
is_fine laws false tokens t = string_at_fine laws tokens t

in_fine : (is_number : Bool) (due tokens : Lexemes) → AreText tokens → Tests is_number (in_at is_number due tokens)
in_fine true due tokens t x h = range_at_fine tokens t x h
in_fine false due tokens t x h = absurd cc

has_fine : (is_number : Bool) (due tokens : Lexemes) → AreText tokens → Tests is_number (has_at is_number due tokens)
has_fine true due tokens t x h = mask_fine tokens t x h
has_fine false due tokens t x h = absurd cc

like_fine : Texts → (is_number : Bool) (due tokens : Lexemes) → AreText tokens → Tests is_number (like_at is_number due tokens)
like_fine laws true due tokens t x h = absurd cc
like_fine laws false due tokens t x h = pattern_at_fine laws tokens t x h

no_test : (is_number : Bool) (tokens : Lexemes) → Tests is_number (fails tokens (OtherWord word_due.Test))
no_test is_number tokens x h = absurd cc

test_fine : Texts → (is_number : Bool) (tokens : Lexemes) → AreText tokens → Tests is_number (test_at is_number tokens)
unfolding test_at
test_fine laws is_number tokens t x h =
    let w = made (word_or (UnknownWord wrong.Quoted) tokens) (λ word. cond (is_word (codes "is") word.0) (is_at is_number word.1)
    (cond (is_word (codes "in") word.0) (in_at is_number tokens word.1)
    (cond (is_word (codes "has") word.0) (has_at is_number tokens word.1)
    (cond (is_word (codes "like") word.0) (like_at is_number tokens word.1) (fails tokens (OtherWord word_due.Test)))))) x h in
    let rest = word_rest (UnknownWord wrong.Quoted) tokens w.0 w.1 t in
    branches (Tests is_number) (is_word (codes "is") w.0.0) (is_at is_number w.0.1) _ (is_fine laws is_number w.0.1 rest)
    (branches (Tests is_number) (is_word (codes "in") w.0.0) (in_at is_number tokens w.0.1) _ (in_fine is_number tokens w.0.1 rest)
    (branches (Tests is_number) (is_word (codes "has") w.0.0) (has_at is_number tokens w.0.1) _ (has_fine is_number tokens w.0.1 rest)
    (branches (Tests is_number) (is_word (codes "like") w.0.0) (like_at is_number tokens w.0.1) (fails tokens (OtherWord word_due.Test))
    (like_fine laws is_number tokens w.0.1 rest) (no_test is_number tokens)))) x w.2

-- conditions

-- a parameter of the call, and the tokens after it
record IsParameter (tag : CallTag) (x : ℕ × Lexemes) : Type 0 where
  within : nat_lt x.0 (length (shape_of tag)) ≡ true
  rest : AreText x.1

found : {A : Type 0} (tokens : Lexemes) (kind : PolicyFaultKind) (o : Option A) (x : A) → or_fails tokens kind o ≡ Ok x → o ≡ Some x
found tokens kind (Some x) y h = cc
found tokens kind None y h = absurd cc

some_same : {A : Type 0} (x y : A) → ◌≡◌ {A = Option A} (Some x) (Some y) → x ≡ y
some_same x y h = cc

place_within : (names : List (List ℕ)) (word : List ℕ) (p : ℕ) → place_of names word ≡ Some p → p < length names
place_within [] word p h = absurd cc
place_within (name ∷ names) word p h = by_word (is_word name word) (place_of names word) (place_within names word) h
  where
    by_word : (b : Bool) (later : Option ℕ) → ((q : ℕ) → later ≡ Some q → q < length names)
        → cond b (Some 0) (option_map (λ n. n + 1) later) ≡ Some p → p < length (name ∷ names)
    by_word true later f e = let same = some_same 0 p e in omega (arith, same)
    by_word false None f e = absurd cc
    by_word false (Some q) f e =
        let same = some_same (q + 1) p e in
        let below = f q refl in
        omega (arith, same, below)

parameter_within : (tag : CallTag) (word : List ℕ) (p : ℕ) → parameter_of tag word ≡ Some p → nat_lt p (length (shape_of tag)) ≡ true
parameter_within tag word p h =
    let below = place_within (parameter_words tag) word p h in
    let many = as_many tag in
    grind (arith, nat_tests, below, many)

parameter_fine : (tag : CallTag) (tokens : Lexemes) (x : ℕ × Lexemes) → parameter_at tag tokens ≡ Ok x → AreText tokens → IsParameter tag x
parameter_fine tag tokens x h t =
    let w = made (word_or (UnknownParam tag) tokens) (λ word. or_fails tokens (UnknownParam tag) (parameter_of tag word.0) >>= λ param. Ok (param, word.1)) x h in
    let p = made (or_fails tokens (UnknownParam tag) (parameter_of tag w.0.0)) (λ param. Ok (param, w.0.1)) x w.2 in
    subst (IsParameter tag) {x = (p.0, w.0.1)} (ok_same (p.0, w.0.1) x p.2)
    (record { within = parameter_within tag w.0.0 p.0 (found tokens (UnknownParam tag) (parameter_of tag w.0.0) p.0 p.1); rest = word_rest (UnknownParam tag) tokens w.0 w.1 t })

same_kind : (a b : Bool) → a ≡ b → beq a b ≡ true
same_kind true true h = refl
same_kind false false h = refl
same_kind true false h = sym h
same_kind false true h = h

plain_fine : Texts → (negated : Bool) (tag : CallTag) (tokens : Lexemes) (x : Cond × Lexemes)
    → plain_condition_at negated tag tokens ≡ Ok x → AreText tokens → IsItem (is_well_formed tag) x
plain_fine laws negated tag tokens x h t =
    let p = made (parameter_at tag tokens)
    (λ param. test_at (is_number_at tag param.0) param.1 >>= λ test. Ok (record { param = param.0; negated = negated; test = test.0 }, test.1)) x h in
    let fine = parameter_fine tag tokens p.0 p.1 t in
    let v = made (test_at (is_number_at tag p.0.0) p.0.1) (λ test. Ok (record { param = p.0.0; negated = negated; test = test.0 }, test.1)) x p.2 in
    let test = test_fine laws (is_number_at tag p.0.0) p.0.1 fine.rest v.0 v.1 in
    subst (IsItem (is_well_formed tag)) {x = (record { param = p.0.0; negated = negated; test = v.0.0 }, v.0.1)}
    (ok_same (record { param = p.0.0; negated = negated; test = v.0.0 }, v.0.1) x v.2)
    (record {
      item = and_from _ _ fine.within (and_from _ _ (same_kind (is_number_test v.0.0) (is_number_at tag p.0.0) test.kind) test.sensible);
      rest = test.rest;
    })

condition_fine : Texts → (tag : CallTag) (tokens : Lexemes) (x : Cond × Lexemes)
    → condition_at tag tokens ≡ Ok x → AreText tokens → IsItem (is_well_formed tag) x
unfolding condition_at
condition_fine laws tag tokens x h t =
    branches (λ (read : Read Cond PolicyFaultKind). read ≡ Ok x → IsItem (is_well_formed tag) x) (begins_with (codes "not") tokens)
    (plain_condition_at true tag (later tokens)) (plain_condition_at false tag tokens)
    (λ e. plain_fine laws true tag (later tokens) x e (later_text tokens t)) (λ e. plain_fine laws false tag tokens x e t) h

-- few conditions, each well formed
record AreConditions (tag : CallTag) (conds : List Cond) : Type 0 where
  few : length conds ≤ 8
  each : list_all (is_well_formed tag) conds ≡ true

conditions_fine : Texts → (tag : CallTag) (tokens : Lexemes) (conds : List Cond)
    → conditions_of tag tokens ≡ Ok conds → AreText tokens → AreConditions tag conds
conditions_fine laws tag tokens conds h t =
    let c = made (conditions_at tag tokens) (λ conds. line_end conds.1 >>= λ end. Ok conds.0) conds h in
    let e = made (line_end c.0.1) (λ end. Ok c.0.0) conds c.2 in
    let j = joined_fine limit.Conditions (is_well_formed tag) (condition_at tag) (condition_fine laws tag) most_conditions (codes "and") tokens c.0 c.1 t in
    subst (AreConditions tag) {x = c.0.0} (ok_same c.0.0 conds e.2) (record { few = j.few; each = j.each })

never_when : (tag : CallTag) (tokens : Lexemes) (conds : List Cond) → end_at_when tokens ≡ Ok conds → AreConditions tag conds
never_when tag (Next place Bad tokens) conds h = absurd cc
never_when tag (Next place (Word w) tokens) conds h = absurd cc
never_when tag (Next place (Quoted q) tokens) conds h = absurd cc
never_when tag (End place) conds h = absurd cc

when_fine : Texts → (tag : CallTag) (tokens : Lexemes) (conds : List Cond) → when_of tag tokens ≡ Ok conds → AreText tokens → AreConditions tag conds
when_fine laws tag tokens conds h t =
    branches (λ (read : Result (List Cond) (TokenFault PolicyFaultKind)). read ≡ Ok conds → AreConditions tag conds) (is_end tokens) (Ok []) _
    (λ e. subst (AreConditions tag) {x = []} (ok_same [] conds e) (record { few = omega arith; each = refl }))
    (branches (λ (read : Result (List Cond) (TokenFault PolicyFaultKind)). read ≡ Ok conds → AreConditions tag conds) (begins_with (codes "when") tokens)
    (conditions_of tag (later tokens)) (end_at_when tokens)
    (λ e. conditions_fine laws tag (later tokens) conds e (later_text tokens t)) (never_when tag tokens conds)) h

-- rules

abbrev Rules : Result (List Rule) (TokenFault PolicyFaultKind) → Type 0
Rules read = (rules : List Rule) → read ≡ Ok rules → list_all is_well_made_rule rules ≡ true

rule_fine : Texts → (line : ℕ) (action : Action) (tokens : Lexemes) → AreText tokens → Rules (rule line action tokens)
unfolding rule
rule_fine laws line action tokens t rules h =
    let c = made (call_at tokens)
    (λ call. unless_fails tokens NotReadOnly (is_for_readers action call.0) >>= λ may. when_of call.0 call.1
    >>= λ conds. Ok (record { tag = call.0; conds = conds; action = action; line = line } ∷ [])) rules h in
    let tag = c.0.0 in
    let a = made (unless_fails tokens NotReadOnly (is_for_readers action tag))
    (λ may. when_of tag c.0.1 >>= λ conds. Ok (record { tag = tag; conds = conds; action = action; line = line } ∷ [])) rules c.2 in
    let w = made (when_of tag c.0.1) (λ conds. Ok (record { tag = tag; conds = conds; action = action; line = line } ∷ [])) rules a.2 in
    let readers = held tokens NotReadOnly (is_for_readers action tag) a.0 a.1 in
    let conds = when_fine laws tag c.0.1 w.0 w.1 (call_rest tokens c.0 c.1 t) in
    subst (λ rules. list_all is_well_made_rule rules ≡ true) {x = record { tag = tag; conds = w.0; action = action; line = line } ∷ []}
    (ok_same (record { tag = tag; conds = w.0; action = action; line = line } ∷ []) rules w.2) (one_well_made tag w.0 action line conds.few readers conds.each)
  where
    call_rest : (tokens : Lexemes) (x : CallTag × Lexemes) → call_at tokens ≡ Ok x → AreText tokens → AreText x.1
    call_rest tokens x h t =
        let w = made (word_or UnknownCall tokens) (λ word. or_fails tokens UnknownCall (tag_of_word word.0) >>= λ tag. Ok (tag, word.1)) x h in
        let c = made (or_fails tokens UnknownCall (tag_of_word w.0.0)) (λ tag. Ok (tag, w.0.1)) x w.2 in
        subst (λ (y : CallTag × Lexemes). AreText y.1) {x = (c.0, w.0.1)} (ok_same (c.0, w.0.1) x c.2) (word_rest UnknownCall tokens w.0 w.1 t)

grant_rest : (tokens : Lexemes) (x : Grant × Lexemes) → grant_at tokens ≡ Ok x → AreText tokens → AreText x.1
grant_rest tokens x h t =
    let w = made (word_or (UnknownWord wrong.Quoted) tokens) (λ word. or_fails tokens (OtherWord word_due.Grant) (grant_of word.0) >>= λ grant. Ok (grant, word.1)) x h in
    let g = made (or_fails tokens (OtherWord word_due.Grant) (grant_of w.0.0)) (λ grant. Ok (grant, w.0.1)) x w.2 in
    subst (λ (y : Grant × Lexemes). AreText y.1) {x = (g.0, w.0.1)} (ok_same (g.0, w.0.1) x g.2) (word_rest (UnknownWord wrong.Quoted) tokens w.0 w.1 t)

grant_fine : Texts → (line : ℕ) (tokens : Lexemes) → AreText tokens → Rules (grant line tokens)
unfolding grant
grant_fine laws line tokens t rules h =
    let g = made (grant_at tokens) (λ grant. cells_at (UnknownWord wrong.Unquoted) grant.1 >>= λ cells. line_end cells.1 >>= λ end. Ok (rules_of line grant.0 cells.0)) rules h in
    let c = made (cells_at (UnknownWord wrong.Unquoted) g.0.1) (λ cells. line_end cells.1 >>= λ end. Ok (rules_of line g.0.0 cells.0)) rules g.2 in
    let e = made (line_end c.0.1) (λ end. Ok (rules_of line g.0.0 c.0.0)) rules c.2 in
    subst (λ rules. list_all is_well_made_rule rules ≡ true) {x = rules_of line g.0.0 c.0.0} (ok_same (rules_of line g.0.0 c.0.0) rules e.2)
    (granted_well_made line g.0.0 c.0.0 (cells_fine laws (UnknownWord wrong.Unquoted) g.0.1 c.0 c.1 (grant_rest tokens g.0 g.1 t)).like)

-- policies

abbrev Kept : Result (List Policy) (TokenFault PolicyFaultKind) → Type 0
Kept read = (new : List Policy) → read ≡ Ok new → are_well_made new ≡ true

-- policies as those before the last, and the last
record HasLast (policies : List Policy) : Type 0 where
  before : List Policy
  last : Policy
  same : policies ≡ before ++ last ∷ []

has_last : (policy : Policy) (policies : List Policy) → HasLast (policy ∷ policies)
has_last policy [] = record { before = []; last = policy; same = refl }
has_last policy (next ∷ policies) =
    let later = has_last next policies in
    record { before = policy ∷ later.before; last = later.last; same = ap (λ (others : List Policy). policy ∷ others) later.same }

rules_kept : (policies : List Policy) (rules : List Rule) → are_well_made policies ≡ true → list_all is_well_made_rule rules ≡ true
    → (new : List Policy) → with_last_rules policies rules ≡ Ok new → are_well_made new ≡ true
rules_kept [] rules h k new e = no_heading (sym (added_nowhere rules) ∙ e)
  where
    no_heading : ◌≡◌ {A = Result (List Policy) PolicyFaultKind} (Err NoHeading) (Ok new) → are_well_made new ≡ true
    no_heading e = absurd cc
rules_kept (policy ∷ policies) rules h k new e =
    let parts = has_last policy policies in
    let added = sym (last_rules parts.before parts.last rules) ∙ ap (λ (ps : List Policy). with_last_rules ps rules) (sym parts.same) ∙ e in
    let t = changed (TooMany limit.Rules) (nat_le (length parts.last.rules + length rules) 256) parts.before _ new added in
    let room = t.0 in
    let few : length parts.last.rules + length rules ≤ 256 = grind (arith, nat_tests, room) in
    subst (λ ps. are_well_made ps ≡ true) t.1
    (well_made_longer parts.before parts.last.name parts.last.rules rules (subst (λ ps. are_well_made ps ≡ true) parts.same h) k few)

added_kept : (line : Lexemes) (policies : List Policy) (read : Result (List Rule) (TokenFault PolicyFaultKind)) → are_well_made policies ≡ true → Rules read
    → Kept (unless_fails line NoHeading (is_headed policies) >>= λ headed. read >>= λ rules. at_token line (with_last_rules policies rules))
added_kept line policies read h f new e =
    let c = made (unless_fails line NoHeading (is_headed policies)) (λ headed. read >>= λ rules. at_token line (with_last_rules policies rules)) new e in
    let r = made read (λ rules. at_token line (with_last_rules policies rules)) new c.2 in
    rules_kept policies r.0 h (f r.0 r.1) new (at_same line (with_last_rules policies r.0) new r.2)

-- a name that no policy so far has
another_name : (policies : List Policy) (word name : List ℕ) → new_name policies word ≡ Ok name → list_any (is_named name) policies ≡ false
another_name policies word name h = by_tests (is_short_name word) (list_any (is_named word) policies) refl h
  where
    by_tests : (s t : Bool) → list_any (is_named word) policies ≡ t → cond s (cond t (Err SameName) (Ok word)) (Err (OtherWord word_due.Name)) ≡ Ok name → list_any (is_named name) policies ≡ false
    by_tests true true k e = absurd cc
    by_tests true false k e = subst (λ n. list_any (is_named n) policies ≡ false) (ok_same word name e) k
    by_tests false t k e = absurd cc

heading_kept : (policies : List Policy) (line tokens : Lexemes) → are_well_made policies ≡ true → Kept (heading policies line tokens)
unfolding heading
heading_kept policies line tokens h new e =
    let n = made (name_at policies tokens) (λ name. line_end name.1 >>= λ end. at_token line (with_policy policies name.0)) new e in
    let l = made (line_end n.0.1) (λ end. at_token line (with_policy policies n.0.0)) new n.2 in
    let t = chosen (TooMany limit.Policies) (nat_lt (length policies) 8) _ new (at_same line (with_policy policies n.0.0) new l.2) in
    let room = t.0 in
    let few : length policies < 8 = grind (arith, nat_tests, room) in
    subst (λ ps. are_well_made ps ≡ true) t.1 (well_made_more policies n.0.0 h (named_apart policies tokens n.0 n.1) few)
  where
    named_apart : (policies : List Policy) (tokens : Lexemes) (x : List ℕ × Lexemes) → name_at policies tokens ≡ Ok x → list_any (is_named x.0) policies ≡ false
    named_apart policies tokens x h =
        let w = made (word_or (UnknownWord wrong.Quoted) tokens) (λ word. at_token tokens (new_name policies word.0) >>= λ name. Ok (name, word.1)) x h in
        let n = made (at_token tokens (new_name policies w.0.0)) (λ name. Ok (name, w.0.1)) x w.2 in
        subst (λ (y : List ℕ × Lexemes). list_any (is_named y.0) policies ≡ false) {x = (n.0, w.0.1)} (ok_same (n.0, w.0.1) x n.2)
        (another_name policies w.0.0 n.0 (at_same tokens (new_name policies w.0.0) n.0 n.1))

line_kept : Texts → (version : ℕ) (policies : List Policy) (number : ℕ) (line : Lexemes)
    → are_well_made policies ≡ true → AreText line → Kept (line_of version policies number line)
unfolding line_of
line_kept laws version policies number line h t new e =
    let w = made (word_or (UnknownWord wrong.Quoted) line) (λ word. cond (is_word (codes "policy") word.0) (heading policies line word.1)
    (cond (is_word (codes "grant") word.0) (with_grant policies number line word.1)
    (or_fails line (first_word_fault word.0) (action_of version word.0) >>= λ action. with_rule policies number action line word.1))) new e in
    let rest = word_rest (UnknownWord wrong.Quoted) line w.0 w.1 t in
    branches Kept (is_word (codes "policy") w.0.0) (heading policies line w.0.1) _ (heading_kept policies line w.0.1 h)
    (branches Kept (is_word (codes "grant") w.0.0) (with_grant policies number line w.0.1) _
    (added_kept line policies (grant number w.0.1) h (grant_fine laws number w.0.1 rest))
    (λ new e.
    let a = made (or_fails line (first_word_fault w.0.0) (action_of version w.0.0)) (λ action. with_rule policies number action line w.0.1) new e in
    added_kept line policies (rule number a.0 w.0.1) h (rule_fine laws number a.0 w.0.1 rest) new a.2)) new w.2

-- texts

abbrev KeptText : Result (List Policy) (LineFault PolicyFaultKind) → Type 0
KeptText read = (new : List Policy) → read ≡ Ok new → are_well_made new ≡ true

lines_kept : Texts → (version : ℕ) (lines : List NumberedLine) (policies : List Policy) → are_well_made policies ≡ true
    → list_all has_quoted_text lines ≡ true → KeptText (read_lines grammar version policies lines)
unfolding read_lines
lines_kept laws version [] policies h t new e = subst (λ ps. are_well_made ps ≡ true) (ok_same policies new e) h
lines_kept laws version (line ∷ lines) policies h t new e =
    let parts = and_parts (has_quoted_text line) (list_all has_quoted_text lines) t in
    by_line (add_line version policies line) (line_kept laws version policies line.number (tokens_of line.text) h parts.0)
    (λ more k. lines_kept laws version lines more k parts.1) new e
  where
    by_line : (read : Result (List Policy) (TokenFault PolicyFaultKind)) → Kept read
        → ((more : List Policy) → are_well_made more ≡ true → KeptText (read_lines grammar version more lines))
        → KeptText (on_line by_tokens line read >>= λ more. read_lines grammar version more lines)
    by_line (Ok more) f g new e = g more (f more refl) new e
    by_line (Err fault) f g new e = absurd cc

first_kept : Texts → (first : NumberedLine) (version : Result ℕ (TokenFault PolicyFaultKind)) (lines : List NumberedLine) → list_all has_quoted_text lines ≡ true
    → KeptText (on_line by_tokens first version >>= λ version. read_lines grammar version [] lines)
first_kept laws first (Ok version) lines t new e = lines_kept laws version lines [] refl t new e
first_kept laws first (Err fault) lines t new e = absurd cc

by_kept : Texts → (lines : List NumberedLine) → list_all has_quoted_text lines ≡ true → KeptText (read_by grammar lines)
by_kept laws [] t new e = absurd cc
by_kept laws (first ∷ lines) t new e =
    first_kept laws first (policy_version first.text) lines (and_parts (has_quoted_text first) (list_all has_quoted_text lines) t).1 new e

pub read_well_made : Texts → QuotedTokensAreText → ReadPoliciesAreWellMade
read_well_made laws law text new e = by_place (not_utf8_place text) refl e
  where
    by_place : (place : Option Place) → not_utf8_place text ≡ place → where_utf8 NotUtf8 place (read_by grammar (lines_of text)) ≡ Ok new → are_well_made new ≡ true
    by_place None k e = by_kept laws (lines_of text) (law text k) new e
    by_place (Some place) k e = absurd cc
