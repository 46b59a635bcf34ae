-- The tokens that are printed are plain.
use Rattle.std.proofs.Common.{◌≡◌, ◌∙◌, ℕ, zero, suc, ◌<◌, nat_lt, Bool, true, false, List, [], ◌∷◌, length, map, slice_index_or, refl, arith}
use Rattle.std.specs.List.{flat_map, list_all, list_any}
use Rattle.std.specs.Prelude.{codes, if◌then◌else◌}
use Rattle.std.proofs.lemmas.Bool.{false≢true, and_from, and_parts}
use Rattle.std.proofs.lemmas.Bool.Decides.{nat_tests}
use Rattle.std.proofs.lemmas.List.Folds.{list_all-append}
use Rattle.std.proofs.lemmas.Str.{is_utf8-from_IsUtf8}
use Rattle.sb_call.specs.ShortNames.{is_name_byte, is_short_name}
use Rattle.sb_call.specs.Tags.{shape_of}
use Rattle.sb_call.specs.declared.tags.CallTag.{CallTag}
use Rattle.sb_call.specs.declared.tags.CallTag.TheVariants.{Ping, FileCreate, FileOpen, FileQuery, FileRename, PipeCreate, KeyCreate, KeyOpen, EventCreate, EventOpen, HandleClose}
use Rattle.sb_rule.specs.PatternReading.{text_of}
use Rattle.sb_rule.specs.WellMade.{is_policy_text, is_sensible, is_well_formed, is_well_made_rule, is_well_made}
use Rattle.sb_rule.specs.declared.actions.Action.{Action}
use Rattle.sb_rule.specs.declared.actions.Action.TheVariants.{Allow, Deny, Alarm, Fake, ReadOnly}
use Rattle.sb_rule.specs.declared.conditions.Cond.{Cond}
use Rattle.sb_rule.specs.declared.conditions.Test.{Test}
use Rattle.sb_rule.specs.declared.conditions.Test.TheVariants.{OneOf, Range, Mask, Equal, Like}
use Rattle.sb_rule.specs.declared.policies.Policy.{Policy}
use Rattle.sb_rule.specs.declared.policies.Rule.{Rule}
use Rattle.sb_text.specs.NumberLaws.{HexadecimalsAreRead}
use Rattle.sb_text.specs.Tokens.{Word, Quoted, utf8_of}
use Rattle.sb_call.specs.Parameters.{parameter_word, parameter_words}
use Rattle.sb_ruletext.specs.Printing.{numbers_tokens, test_tokens, not_tokens, cond_tokens, joined_tokens, conds_tokens, rule_tokens, heading_tokens, policy_lines, has_read_only, version_tokens, printed_lines}
use Rattle.sb_ruletext.specs.Values.{is_test_of_values, is_rule_of_values, is_policy_of_values}
use Rattle.sb_base.specs.Numbers.{is_word64}
use Rattle.sb_rule.specs.Actions.{action_word}
use Rattle.sb_call.specs.CallWords.{call_word}
use Rattle.sb_ruletext.proofs.PrintedConditions.{AreSound, Texts, later_sound, number_small, string_back}
use Rattle.sb_text.specs.PlainLines.{is_plain_byte, is_plain, is_plain_line}
use Rattle.sb_ruletext.proofs.Conjunctions.{all_more}
use Rattle.sb_text.specs.Strings.{StringsComeBack}
use Rattle.sb_ruletext.proofs.PrintedWords.{within, number_plain, range_plain}

-- words

action_plain : (action : Action) → is_plain (Word (action_word action)) ≡ true
action_plain Allow = refl
action_plain Deny = refl
action_plain Alarm = refl
action_plain Fake = refl
action_plain ReadOnly = refl

call_plain : (tag : CallTag) → is_plain (Word (call_word tag)) ≡ true
call_plain Ping = refl
call_plain FileCreate = refl
call_plain FileOpen = refl
call_plain FileQuery = refl
call_plain FileRename = refl
call_plain PipeCreate = refl
call_plain KeyCreate = refl
call_plain KeyOpen = refl
call_plain EventCreate = refl
call_plain EventOpen = refl
call_plain HandleClose = refl

parameters_plain : (tag : CallTag) → list_all (λ word. is_plain (Word word)) (parameter_words tag) ≡ true
parameters_plain Ping = refl
parameters_plain FileCreate = refl
parameters_plain FileOpen = refl
parameters_plain FileQuery = refl
parameters_plain FileRename = refl
parameters_plain PipeCreate = refl
parameters_plain KeyCreate = refl
parameters_plain KeyOpen = refl
parameters_plain EventCreate = refl
parameters_plain EventOpen = refl
parameters_plain HandleClose = refl

all_at : (p : List ℕ → Bool) (words : List (List ℕ)) (i : ℕ) → list_all p words ≡ true → i < length words → p (slice_index_or words i []) ≡ true
all_at p [] i h k = absurd (omega arith)
all_at p (word ∷ words) zero h k = (and_parts _ _ h).0
all_at p (word ∷ words) (suc i) h k = all_at p words i (and_parts _ _ h).1 (omega arith)

parameter_plain : (tag : CallTag) (param : ℕ) → nat_lt param (length (shape_of tag)) ≡ true → is_plain (Word (parameter_word tag param)) ≡ true
parameter_plain tag param h = all_at (λ word. is_plain (Word word)) (parameter_words tag) param (parameters_plain tag) (within tag param h)

-- tests

numbers_plain : HexadecimalsAreRead → (n : ℕ) (more : List ℕ) → list_all is_word64 (n ∷ more) ≡ true → list_all is_plain (numbers_tokens (n ∷ more)) ≡ true
numbers_plain law n [] h = and_from _ _ (number_plain law n (number_small n (and_parts _ _ h).0)) refl
numbers_plain law n (next ∷ more) h = and_from _ _ (number_plain law n (number_small n (and_parts _ _ h).0)) (numbers_plain law next more (and_parts _ _ h).1)

string_plain : StringsComeBack → (us : List ℕ) → is_policy_text us ≡ true → is_plain (Quoted (utf8_of us)) ≡ true
string_plain law us h = let s = string_back law us h in and_from _ _ s.quoted (is_utf8-from_IsUtf8 (utf8_of us) s.utf8)

test_plain : Texts → (test : Test) → is_sensible test ≡ true → is_test_of_values test ≡ true → list_all is_plain (test_tokens test) ≡ true
test_plain laws (OneOf []) s v = absurd (false≢true s)
test_plain laws (OneOf (n ∷ more)) s v = numbers_plain laws.numbers n more v
test_plain laws (Range lo hi) s v = and_from _ _ (range_plain laws.numbers lo hi (number_small lo (and_parts _ _ v).0) (number_small hi (and_parts _ _ v).1)) refl
test_plain laws (Mask mask) s v = and_from _ _ (number_plain laws.numbers mask (number_small mask v)) refl
test_plain laws (Equal text) s v = and_from _ _ (string_plain laws.strings text s) refl
test_plain laws (Like pattern) s v = and_from _ _ (string_plain laws.strings (text_of pattern) (and_parts _ _ s).1) refl

-- conditions

not_plain : (negated : Bool) → list_all is_plain (not_tokens negated) ≡ true
not_plain true = refl
not_plain false = refl

cond_plain : Texts → (tag : CallTag) (cond : Cond) → is_well_formed tag cond ≡ true → is_test_of_values cond.test ≡ true → list_all is_plain (cond_tokens tag cond) ≡ true
cond_plain laws tag cond h v =
    list_all-append is_plain (not_tokens cond.negated) (Word (parameter_word tag cond.param) ∷ test_tokens cond.test)
    ∙ and_from _ _ (not_plain cond.negated)
    (and_from _ _ (parameter_plain tag cond.param (and_parts _ _ h).0) (test_plain laws cond.test (and_parts _ _ (and_parts _ _ h).1).1 v))

more_plain : Texts → (tag : CallTag) (conds : List Cond) → AreSound tag conds → list_all is_plain (flat_map (joined_tokens (codes "and") tag) conds) ≡ true
more_plain laws tag [] s = refl
more_plain laws tag (cond ∷ conds) s =
    list_all-append is_plain (joined_tokens (codes "and") tag cond) (flat_map (joined_tokens (codes "and") tag) conds)
    ∙ and_from _ _ (cond_plain laws tag cond (and_parts _ _ s.formed).0 (and_parts _ _ s.values).0) (more_plain laws tag conds (later_sound tag cond conds s))

conds_plain : Texts → (tag : CallTag) (conds : List Cond) → AreSound tag conds → list_all is_plain (conds_tokens tag conds) ≡ true
conds_plain laws tag [] s = refl
conds_plain laws tag (cond ∷ conds) s =
    list_all-append is_plain (joined_tokens (codes "when") tag cond) (flat_map (joined_tokens (codes "and") tag) conds)
    ∙ and_from _ _ (cond_plain laws tag cond (and_parts _ _ s.formed).0 (and_parts _ _ s.values).0) (more_plain laws tag conds (later_sound tag cond conds s))

-- rules and policies

pub sound_conds : (rule : Rule) → is_well_made_rule rule ≡ true → is_rule_of_values rule ≡ true → AreSound rule.tag rule.conds
sound_conds rule h v = record { formed = (and_parts _ _ h).1; values = v }

pub rule_plain : Texts → (rule : Rule) → is_well_made_rule rule ≡ true → is_rule_of_values rule ≡ true → is_plain_line (rule_tokens rule) ≡ true
rule_plain laws rule h v =
    and_from _ _ (action_plain rule.action) (and_from _ _ (call_plain rule.tag) (conds_plain laws rule.tag rule.conds (sound_conds rule h v)))

rules_plain : Texts → (rules : List Rule) → list_all is_well_made_rule rules ≡ true → list_all is_rule_of_values rules ≡ true → list_all is_plain_line (map rule_tokens rules) ≡ true
rules_plain laws [] h v = refl
rules_plain laws (rule ∷ rules) h v = and_from _ _ (rule_plain laws rule (and_parts _ _ h).0 (and_parts _ _ v).0) (rules_plain laws rules (and_parts _ _ h).1 (and_parts _ _ v).1)

name_byte : (b : ℕ) → is_name_byte b ≡ true → is_plain_byte b ≡ true
name_byte b h = grind (arith, nat_tests)

name_plain : (name : List ℕ) → is_short_name name ≡ true → is_plain (Word name) ≡ true
name_plain [] h = absurd (false≢true h)
name_plain (b ∷ name) h = all_more is_name_byte is_plain_byte name_byte (b ∷ name) (and_parts _ _ h).1

pub heading_plain : (policy : Policy) → is_short_name policy.name ≡ true → is_plain_line (heading_tokens policy) ≡ true
heading_plain policy h = and_from _ _ (name_plain policy.name h) refl

policy_plain : Texts → (policy : Policy) → is_well_made policy ≡ true → is_policy_of_values policy ≡ true → list_all is_plain_line (policy_lines policy) ≡ true
policy_plain laws policy h v =
    and_from _ _ (heading_plain policy (and_parts _ _ v).0) (rules_plain laws policy.rules (and_parts _ _ h).1 (and_parts _ _ v).1)

policies_plain : Texts → (policies : List Policy) → list_all is_well_made policies ≡ true → list_all is_policy_of_values policies ≡ true
    → list_all is_plain_line (flat_map policy_lines policies) ≡ true
policies_plain laws [] h v = refl
policies_plain laws (policy ∷ policies) h v =
    list_all-append is_plain_line (policy_lines policy) (flat_map policy_lines policies)
    ∙ and_from _ _ (policy_plain laws policy (and_parts _ _ h).0 (and_parts _ _ v).0) (policies_plain laws policies (and_parts _ _ h).1 (and_parts _ _ v).1)

version_plain : (policies : List Policy) → is_plain_line (version_tokens policies) ≡ true
version_plain policies = by_version (list_any has_read_only policies)
  where
    by_version : (t : Bool) → is_plain_line (Word (codes "sandbox-policy") ∷ Word (if t then codes "2" else codes "1") ∷ []) ≡ true
    by_version true = refl
    by_version false = refl

-- the lines of policies are plain
pub printed_plain : Texts → (policies : List Policy) → list_all is_well_made policies ≡ true → list_all is_policy_of_values policies ≡ true
    → list_all is_plain_line (printed_lines policies) ≡ true
printed_plain laws policies h v = and_from _ _ (version_plain policies) (policies_plain laws policies h v)
