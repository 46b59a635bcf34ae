-- The text of well-made policies is short.
use Rattle.std.specs.Prelude.{◌^◌, nat_le, slice_index_or, Option, Some}
use Rattle.std.specs.Char.Utf16.{utf16_chars, utf16_lossy_chars, is_high_surrogate, is_low_surrogate, lone_unit_char, surrogate_pair_char}
use Rattle.std.specs.Fmt.{digits, digits_onto, digit_glyph}
use Rattle.std.specs.List.{flat_map, list_all, list_any}
use Rattle.std.specs.Option.{unwrap_or}
use Rattle.std.proofs.Common.{◌≡◌, ◌∙◌, ℕ, zero, suc, ◌+◌, ◌*◌, ◌/◌, ◌%◌, ◌≤◌, ◌<◌, Bool, true, false, cond, List, [], ◌∷◌, ◌++◌, ◌&&◌, eqb, codes, length, map, refl, ap, sym, subst, arith}
use Rattle.std.proofs.Math.Utf8.{encode, encodes}
use Rattle.std.proofs.lemmas.Bool.{and_parts}
use Rattle.std.proofs.lemmas.Bool.Decides.{nat_tests}
use Rattle.std.proofs.lemmas.Grind.{flat_map-append}
use Rattle.std.proofs.lemmas.List.{length-append, length-map}
use Rattle.sb_call.specs.CallWords.{call_word}
use Rattle.sb_call.specs.declared.tags.CallTag.{CallTag}
use Rattle.sb_call.specs.declared.tags.CallTag.TheVariants.{Ping, FileCreate, FileOpen, FileQuery, FileRename, PipeCreate, KeyCreate, KeyOpen, EventCreate, EventOpen, HandleClose}
use Rattle.sb_rule.specs.PatternReading.{text_of}
use Rattle.sb_rule.specs.Actions.{action_word}
use Rattle.sb_rule.specs.WellMade.{is_sensible, is_policy_text, is_well_formed, is_well_made_rule, is_well_made, are_well_made}
use Rattle.sb_rule.specs.declared.actions.Action.{Action}
use Rattle.sb_rule.specs.declared.actions.Action.TheVariants.{Allow, Deny, Alarm, Fake, ReadOnly}
use Rattle.sb_rule.specs.declared.conditions.Cond.{Cond}
use Rattle.sb_rule.specs.declared.conditions.Test.{Test}
use Rattle.sb_rule.specs.declared.conditions.Test.TheVariants.{OneOf, Range, Mask, Equal, Like}
use Rattle.sb_rule.specs.declared.policies.Policy.{Policy}
use Rattle.sb_rule.specs.declared.policies.Rule.{Rule}
use Rattle.sb_text.specs.TokenLaws.{written_token, written_line}
use Rattle.sb_text.specs.Tokens.{Lexeme, Word, Quoted, utf8_of}
use Rattle.sb_call.specs.Parameters.{parameter_words, parameter_word}
use Rattle.sb_ruletext.specs.Printing.{number_word, range_word, or_tokens, numbers_tokens, test_tokens, not_tokens, cond_tokens, joined_tokens, conds_tokens, rule_tokens, heading_tokens, policy_lines, has_read_only, version_word, version_tokens, spaced, printed}
use Rattle.sb_text.specs.PlainLines.{line_text}
use Rattle.sb_ruletext.specs.Values.{is_policy_of_values}
use Rattle.sb_ruletext.proofs.PrintedSpaces.{spaced_line}

at_most : (n m : ℕ) → nat_le n m ≡ true → n ≤ m
at_most n m h = grind (arith, nat_tests)

-- numbers

digits_few : (k base : ℕ) (upper : Bool) (n : ℕ) (acc : List ℕ) → length (digits_onto k base upper n acc) ≤ k + length acc
digits_few zero base upper n acc = omega arith
digits_few (suc k) base upper n acc =
    let glyph = digit_glyph upper (n % base) in
    by (eqb (n / base) 0) (digits_onto k base upper (n / base) (glyph ∷ acc)) (digits_few k base upper (n / base) (glyph ∷ acc))
  where
    by : (b : Bool) (later : List ℕ) → length later ≤ k + length (digit_glyph upper (n % base) ∷ acc)
        → length (cond b (digit_glyph upper (n % base) ∷ acc) later) ≤ suc k + length acc
    by true later h = omega arith
    by false later h = omega (arith, h)

hexadecimal_few : (n : ℕ) → length (digits 16 false n) ≤ 64
unfolding digits
hexadecimal_few n = let few = digits_few 64 16 false n [] in omega (arith, few)

number_short : (n : ℕ) → length (number_word n) ≤ 66
number_short n = let few = hexadecimal_few n in omega (arith, few)

-- strings

chars_step : (b : Bool) (c d : Option ℕ) (xs ys : List (Option ℕ)) (n : ℕ) → length xs ≤ n → length ys ≤ n + 1 → length (cond b (c ∷ xs) (d ∷ ys)) ≤ n + 2
chars_step true c d xs ys n h k = omega (arith, h)
chars_step false c d xs ys n h k = omega (arith, k)

chars_few : (us : List ℕ) → length (utf16_chars us) ≤ length us
unfolding utf16_chars
chars_few [] = omega arith
chars_few (u ∷ []) = omega arith
chars_few (u ∷ v ∷ us) =
    let one = chars_few us in
    let two = chars_few (v ∷ us) in
    let whole = chars_step (is_high_surrogate u && is_low_surrogate v) (Some (surrogate_pair_char u v)) (lone_unit_char u) (utf16_chars us)
    (utf16_chars (v ∷ us)) (length us) one (omega (arith, two)) in
    omega (arith, whole)

encode_few : (c : ℕ) → length (encode c) ≤ 4
unfolding encode
encode_few c = grind arith

encodes_few : (cs : List ℕ) → length (encodes cs) ≤ 4 * length cs
encodes_few [] = omega arith
encodes_few (c ∷ cs) =
    let here = encode_few c in
    let later = encodes_few cs in
    let whole = length-append (encode c) (encodes cs) in
    omega (arith, here, later, whole)

string_short : (us : List ℕ) → length us ≤ 256 → length (utf8_of us) ≤ 1024
string_short us h =
    let bytes = encodes_few (utf16_lossy_chars us) in
    let chars = length-map (utf16_chars us) (λ o. unwrap_or o 0xFFFD) in
    let units = chars_few us in
    omega (arith, bytes, chars, units, h)

-- the length of tokens, each with a space before it
abbrev size : List Lexeme → ℕ
size tokens = length (spaced tokens)

size_word : (w : List ℕ) (rest : List Lexeme) → size (Word w ∷ rest) ≡ length w + size rest + 1
size_word w rest = let e = length-append w (spaced rest) in omega (arith, e)

size_quoted : (q : List ℕ) (rest : List Lexeme) → size (Quoted q ∷ rest) ≡ length q + size rest + 3
size_quoted q rest =
    let e = length-append (q ++ 34 ∷ []) (spaced rest) in
    let f = length-append q (34 ∷ []) in
    omega (arith, e, f)

size_append : (xs ys : List Lexeme) → size (xs ++ ys) ≡ size xs + size ys
size_append xs ys = ap length (flat_map-append (λ token. 32 ∷ written_token token) xs ys) ∙ length-append (spaced xs) (spaced ys)

-- tests

or_short : (n : ℕ) → size (or_tokens n) ≤ 70
or_short n =
    let joint = size_word (codes "or") (Word (number_word n) ∷ []) in
    let number = size_word (number_word n) [] in
    let two : length (codes "or") ≡ 2 = refl in
    let few = number_short n in
    omega (arith, joint, number, two, few)

more_numbers_short : (ns : List ℕ) → size (flat_map or_tokens ns) ≤ length ns * 70
more_numbers_short [] = omega arith
more_numbers_short (n ∷ ns) =
    let here = or_short n in
    let later = more_numbers_short ns in
    let whole = size_append (or_tokens n) (flat_map or_tokens ns) in
    omega (arith, here, later, whole)

numbers_short : (ns : List ℕ) → length ns ≤ 16 → size (numbers_tokens ns) ≤ 1187
numbers_short [] h = omega arith
numbers_short (n ∷ more) h =
    let first = size_word (number_word n) (flat_map or_tokens more) in
    let few = number_short n in
    let later = more_numbers_short more in
    omega (arith, first, few, later, h)

range_short : (lo hi : ℕ) → length (range_word lo hi) ≤ 134
range_short lo hi =
    let low = number_short lo in
    let high = number_short hi in
    let whole = length-append (number_word lo) (46 ∷ 46 ∷ number_word hi) in
    omega (arith, low, high, whole)

text_few : (us : List ℕ) → is_policy_text us ≡ true → length us ≤ 256
text_few us h = at_most (length us) 256 (and_parts _ _ (and_parts _ _ h).0).0

-- a test word and one token
one_token : (w : List ℕ) (rest : List Lexeme) (n : ℕ) → length w ≤ 4 → size rest ≤ n → size (Word w ∷ rest) ≤ n + 5
one_token w rest n h k = let e = size_word w rest in omega (arith, e, h, k)

word_short : (w : List ℕ) (n : ℕ) → length w ≤ n → size (Word w ∷ []) ≤ n + 1
word_short w n h = let e = size_word w [] in omega (arith, e, h)

quoted_short : (q : List ℕ) → length q ≤ 1024 → size (Quoted q ∷ []) ≤ 1027
quoted_short q h = let e = size_quoted q [] in omega (arith, e, h)

test_short : (test : Test) → is_sensible test ≡ true → size (test_tokens test) ≤ 1200
test_short (OneOf numbers) h =
    let few = at_most (length numbers) 16 (and_parts _ _ h).1 in
    let whole = one_token (codes "is") (numbers_tokens numbers) 1187 (at_most (length (codes "is")) 4 refl) (numbers_short numbers few) in
    omega (arith, whole)
test_short (Range lo hi) h =
    let whole = one_token (codes "in") (Word (range_word lo hi) ∷ []) 135 (at_most (length (codes "in")) 4 refl) (word_short (range_word lo hi) 134 (range_short lo hi)) in
    omega (arith, whole)
test_short (Mask mask) h =
    let whole = one_token (codes "has") (Word (number_word mask) ∷ []) 67 (at_most (length (codes "has")) 4 refl) (word_short (number_word mask) 66 (number_short mask)) in
    omega (arith, whole)
test_short (Equal text) h =
    let whole = one_token (codes "is") (Quoted (utf8_of text) ∷ []) 1027 (at_most (length (codes "is")) 4 refl)
    (quoted_short (utf8_of text) (string_short text (text_few text h))) in
    omega (arith, whole)
test_short (Like pattern) h =
    let whole = one_token (codes "like") (Quoted (utf8_of (text_of pattern)) ∷ []) 1027 (at_most (length (codes "like")) 4 refl)
    (quoted_short (utf8_of (text_of pattern)) (string_short (text_of pattern) (text_few (text_of pattern) (and_parts _ _ h).1))) in
    omega (arith, whole)

-- conditions

words_few : (tag : CallTag) → list_all (λ word. nat_le (length word) 11) (parameter_words tag) ≡ true
words_few Ping = refl
words_few FileCreate = refl
words_few FileOpen = refl
words_few FileQuery = refl
words_few FileRename = refl
words_few PipeCreate = refl
words_few KeyCreate = refl
words_few KeyOpen = refl
words_few EventCreate = refl
words_few EventOpen = refl
words_few HandleClose = refl

word_at_few : (words : List (List ℕ)) (i : ℕ) → list_all (λ word. nat_le (length word) 11) words ≡ true → length (slice_index_or words i []) ≤ 11
word_at_few [] i h = omega arith
word_at_few (word ∷ words) zero h = at_most (length word) 11 (and_parts _ _ h).0
word_at_few (word ∷ words) (suc i) h = word_at_few words i (and_parts (nat_le (length word) 11) _ h).1

not_short : (negated : Bool) → size (not_tokens negated) ≤ 4
not_short true = at_most (size (not_tokens true)) 4 refl
not_short false = omega arith

cond_short : (joint : List ℕ) (tag : CallTag) (c : Cond) → length joint ≤ 4 → is_sensible c.test ≡ true → size (joined_tokens joint tag c) ≤ 1300
cond_short joint tag c h k =
    let tests = test_short c.test k in
    let word = word_at_few (parameter_words tag) c.param (words_few tag) in
    let negation = not_short c.negated in
    let parts = size_word joint (cond_tokens tag c) in
    let rest = size_append (not_tokens c.negated) (Word (parameter_word tag c.param) ∷ test_tokens c.test) in
    let last = size_word (parameter_word tag c.param) (test_tokens c.test) in
    omega (arith, tests, word, negation, parts, rest, last, h)

sensible : (tag : CallTag) (c : Cond) → is_well_formed tag c ≡ true → is_sensible c.test ≡ true
sensible tag c h = (and_parts _ _ (and_parts _ _ h).1).1

more_conds_short : (tag : CallTag) (cs : List Cond) → list_all (is_well_formed tag) cs ≡ true
    → size (flat_map (joined_tokens (codes "and") tag) cs) ≤ length cs * 1300
more_conds_short tag [] h = omega arith
more_conds_short tag (c ∷ cs) h =
    let p = and_parts (is_well_formed tag c) (list_all (is_well_formed tag) cs) h in
    let here = cond_short (codes "and") tag c (at_most (length (codes "and")) 4 refl) (sensible tag c p.0) in
    let later = more_conds_short tag cs p.1 in
    let whole = size_append (joined_tokens (codes "and") tag c) (flat_map (joined_tokens (codes "and") tag) cs) in
    omega (arith, here, later, whole)

conds_short : (tag : CallTag) (cs : List Cond) → length cs ≤ 8 → list_all (is_well_formed tag) cs ≡ true → size (conds_tokens tag cs) ≤ 10400
conds_short tag [] l h = omega arith
conds_short tag (c ∷ cs) l h =
    let p = and_parts (is_well_formed tag c) (list_all (is_well_formed tag) cs) h in
    let here = cond_short (codes "when") tag c (at_most (length (codes "when")) 4 refl) (sensible tag c p.0) in
    let later = more_conds_short tag cs p.1 in
    let whole = size_append (joined_tokens (codes "when") tag c) (flat_map (joined_tokens (codes "and") tag) cs) in
    omega (arith, here, later, whole, l)

-- rules

action_few : (action : Action) → nat_le (length (action_word action)) 8 ≡ true
action_few Allow = refl
action_few Deny = refl
action_few Alarm = refl
action_few Fake = refl
action_few ReadOnly = refl

call_few : (tag : CallTag) → nat_le (length (call_word tag)) 12 ≡ true
call_few Ping = refl
call_few FileCreate = refl
call_few FileOpen = refl
call_few FileQuery = refl
call_few FileRename = refl
call_few PipeCreate = refl
call_few KeyCreate = refl
call_few KeyOpen = refl
call_few EventCreate = refl
call_few EventOpen = refl
call_few HandleClose = refl

-- a line of two words and other tokens
line_length : (first second : List ℕ) (more : List Lexeme)
    → length (line_text (Word first ∷ Word second ∷ more)) ≡ length first + length second + size more + 2
line_length first second more =
    let line = ap length (spaced_line (Word first) (Word second ∷ more)) in
    let end = length-append (written_line (Word first ∷ Word second ∷ more)) (10 ∷ []) in
    let parts = length-append first (spaced (Word second ∷ more)) in
    let rest = size_word second more in
    omega (arith, line, end, parts, rest)

rule_short : (rule : Rule) → is_well_made_rule rule ≡ true → length (line_text (rule_tokens rule)) ≤ 10500
rule_short rule h =
    let few = at_most (length rule.conds) 8 (and_parts _ _ (and_parts _ _ h).0).0 in
    let conds = conds_short rule.tag rule.conds few (and_parts _ _ h).1 in
    let line = line_length (action_word rule.action) (call_word rule.tag) (conds_tokens rule.tag rule.conds) in
    let action = at_most (length (action_word rule.action)) 8 (action_few rule.action) in
    let call = at_most (length (call_word rule.tag)) 12 (call_few rule.tag) in
    omega (arith, conds, line, action, call)

-- the length of lines
abbrev lines : List (List Lexeme) → ℕ
lines ls = length (flat_map line_text ls)

lines_more : (line : List Lexeme) (ls : List (List Lexeme)) → lines (line ∷ ls) ≡ length (line_text line) + lines ls
lines_more line ls = length-append (line_text line) (flat_map line_text ls)

lines_append : (ks ls : List (List Lexeme)) → lines (ks ++ ls) ≡ lines ks + lines ls
lines_append ks ls = ap length (flat_map-append line_text ks ls) ∙ length-append (flat_map line_text ks) (flat_map line_text ls)

rules_short : (rules : List Rule) → list_all is_well_made_rule rules ≡ true → lines (map rule_tokens rules) ≤ length rules * 10500
rules_short [] h = omega arith
rules_short (rule ∷ rules) h =
    let p = and_parts (is_well_made_rule rule) (list_all is_well_made_rule rules) h in
    let here = rule_short rule p.0 in
    let later = rules_short rules p.1 in
    let whole = lines_more (rule_tokens rule) (map rule_tokens rules) in
    omega (arith, here, later, whole)

-- policies

policy_short : (policy : Policy) → is_well_made policy ≡ true → is_policy_of_values policy ≡ true → lines (policy_lines policy) ≤ 2700000
policy_short policy h v =
    let few = at_most (length policy.rules) 256 (and_parts _ _ h).0 in
    let rules = rules_short policy.rules (and_parts _ _ h).1 in
    let name = at_most (length policy.name) 32 (and_parts _ _ (and_parts _ _ (and_parts _ _ v).0).0).1 in
    let heading = line_length (codes "policy") policy.name [] in
    let six : length (codes "policy") ≡ 6 = refl in
    let whole = lines_more (heading_tokens policy) (map rule_tokens policy.rules) in
    omega (arith, few, rules, name, heading, six, whole)

policies_short : (policies : List Policy) → list_all is_well_made policies ≡ true → list_all is_policy_of_values policies ≡ true
    → lines (flat_map policy_lines policies) ≤ length policies * 2700000
policies_short [] h v = omega arith
policies_short (policy ∷ policies) h v =
    let p = and_parts (is_well_made policy) (list_all is_well_made policies) h in
    let q = and_parts (is_policy_of_values policy) (list_all is_policy_of_values policies) v in
    let here = policy_short policy p.0 q.0 in
    let later = policies_short policies p.1 q.1 in
    let whole = lines_append (policy_lines policy) (flat_map policy_lines policies) in
    omega (arith, here, later, whole)

version_few : (b : Bool) → length (cond b (codes "2") (codes "1")) ≤ 1
version_few true = at_most (length (codes "2")) 1 refl
version_few false = at_most (length (codes "1")) 1 refl

all_short : (policies : List Policy) (b : Bool) → version_word policies ≡ cond b (codes "2") (codes "1") → are_well_made policies ≡ true
    → list_all is_policy_of_values policies ≡ true → length (printed policies) ≤ 30000000
all_short policies b e h v =
    let few = at_most (length policies) 8 (and_parts _ _ (and_parts _ _ h).0).0 in
    let each = policies_short policies (and_parts _ _ h).1 v in
    let version = ap length e in
    let one = version_few b in
    let line = line_length (codes "sandbox-policy") (version_word policies) [] in
    let long : length (codes "sandbox-policy") ≡ 14 = refl in
    let whole = lines_more (version_tokens policies) (flat_map policy_lines policies) in
    omega (arith, few, each, version, one, line, long, whole)

-- a text that is the printing of policies has fewer than 2^32 - 1 bytes
pub printed_short : (policies list : List Policy) (text : List ℕ) → list ≡ policies → are_well_made policies ≡ true
    → list_all is_policy_of_values list ≡ true → text ≡ printed list → length text + 1 < 2 ^ 32
printed_short policies list text same h v e =
    let made = subst (λ l. are_well_made l ≡ true) (sym same) h in
    let few = all_short list (list_any has_read_only list) refl made v in
    let long = ap length e in
    omega (arith, few, long)
