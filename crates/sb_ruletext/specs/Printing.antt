-- How policies are written as a text.
use Rattle.std.specs.Prelude.{ℕ, ◌+◌, Bool, true, false, List, [], ◌∷◌, ◌++◌, length, map, codes, if◌then◌else◌}
use Rattle.sb_base.specs.Numbers.{hexadecimal}
use Rattle.std.specs.List.{flat_map, list_any}
use Rattle.sb_call.specs.declared.tags.CallTag.{CallTag}
use Rattle.sb_rule.specs.PatternReading.{text_of}
use Rattle.sb_rule.specs.declared.actions.Action.{Action}
use Rattle.sb_rule.specs.declared.actions.Action.TheVariants.{ReadOnly}
use Rattle.sb_rule.specs.declared.conditions.Cond.{Cond}
use Rattle.sb_rule.specs.declared.conditions.Test.{Test}
use Rattle.sb_rule.specs.declared.conditions.Test.TheVariants.{OneOf, Range, Mask, Equal, Like}
use Rattle.sb_rule.specs.declared.policies.Policy.{Policy}
use Rattle.sb_rule.specs.declared.policies.Rule.{Rule}
use Rattle.sb_text.specs.PlainLines.{line_text}
use Rattle.sb_text.specs.TokenLaws.{written_token}
use Rattle.sb_text.specs.Tokens.{Lexeme, Word, Quoted, utf8_of}
use Rattle.sb_rule.specs.Actions.{action_word}
use Rattle.sb_call.specs.CallWords.{call_word}
use Rattle.sb_call.specs.Parameters.{parameter_word}

-- a number: `0x` and lower-case hexadecimal digits
abbrev pub number_word : ℕ → List ℕ
number_word n = 48 ∷ 120 ∷ hexadecimal n

-- a range: two numbers joined by `..`
abbrev pub range_word : ℕ → ℕ → List ℕ
range_word lo hi = number_word lo ++ 46 ∷ 46 ∷ number_word hi

-- another number: `or N`
abbrev pub or_tokens : ℕ → List Lexeme
or_tokens n = Word (codes "or") ∷ Word (number_word n) ∷ []

-- numbers: `N or N ..`
abbrev pub numbers_tokens : List ℕ → List Lexeme
numbers_tokens [] = []
numbers_tokens (n ∷ more) = Word (number_word n) ∷ flat_map or_tokens more

-- a test: `is N or N ..`, `in LO..HI`, `has N`, `is "S"` or `like "P"`
abbrev pub test_tokens : Test → List Lexeme
test_tokens (OneOf numbers) = Word (codes "is") ∷ numbers_tokens numbers
test_tokens (Range lo hi) = Word (codes "in") ∷ Word (range_word lo hi) ∷ []
test_tokens (Mask mask) = Word (codes "has") ∷ Word (number_word mask) ∷ []
test_tokens (Equal text) = Word (codes "is") ∷ Quoted (utf8_of text) ∷ []
test_tokens (Like pattern) = Word (codes "like") ∷ Quoted (utf8_of (text_of pattern)) ∷ []

-- `not`, if a condition is negated
abbrev pub not_tokens : Bool → List Lexeme
not_tokens true = Word (codes "not") ∷ []
not_tokens false = []

-- a condition: `not` if it is negated, the name of its parameter, and its test
abbrev pub cond_tokens : CallTag → Cond → List Lexeme
cond_tokens tag cond = not_tokens cond.negated ++ Word (parameter_word tag cond.param) ∷ test_tokens cond.test

-- a condition after `when` or `and`
abbrev pub joined_tokens : List ℕ → CallTag → Cond → List Lexeme
joined_tokens joint tag cond = Word joint ∷ cond_tokens tag cond

-- conditions: `when COND and COND ..`
abbrev pub conds_tokens : CallTag → List Cond → List Lexeme
conds_tokens tag [] = []
conds_tokens tag (cond ∷ more) = joined_tokens (codes "when") tag cond ++ flat_map (joined_tokens (codes "and") tag) more

-- the line of a rule: its action, its call and its conditions
abbrev pub rule_tokens : Rule → List Lexeme
rule_tokens rule = Word (action_word rule.action) ∷ Word (call_word rule.tag) ∷ conds_tokens rule.tag rule.conds

-- the heading of a policy: `policy NAME`
abbrev pub heading_tokens : Policy → List Lexeme
heading_tokens policy = Word (codes "policy") ∷ Word policy.name ∷ []

-- the lines of a policy: its heading, and one for each rule
abbrev pub policy_lines : Policy → List (List Lexeme)
policy_lines policy = heading_tokens policy ∷ map rule_tokens policy.rules

-- an action that only lets read
abbrev pub is_read_only : Action → Bool
is_read_only ReadOnly = true
is_read_only _ = false

-- some rule of a policy only lets read
abbrev pub has_read_only : Policy → Bool
has_read_only policy = list_any (λ rule. is_read_only rule.action) policy.rules

-- version 2 if some rule only lets read, and else version 1
abbrev pub version_word : List Policy → List ℕ
version_word policies = if list_any has_read_only policies then codes "2" else codes "1"

-- the first line: `sandbox-policy VERSION`
abbrev pub version_tokens : List Policy → List Lexeme
version_tokens policies = Word (codes "sandbox-policy") ∷ Word (version_word policies) ∷ []

-- the lines of policies: the version, and then each policy's
abbrev pub printed_lines : List Policy → List (List Lexeme)
printed_lines policies = version_tokens policies ∷ flat_map policy_lines policies

-- tokens with a space before each
abbrev pub spaced : List Lexeme → List ℕ
spaced tokens = flat_map (λ token. 32 ∷ written_token token) tokens

-- the text of policies
abbrev pub printed : List Policy → List ℕ
printed policies = flat_map line_text (printed_lines policies)

-- rules with the numbers of their lines, the first of which is n
abbrev pub relined_rules : ℕ → List Rule → List Rule
relined_rules n [] = []
relined_rules n (rule ∷ rules) = record rule { line = n } ∷ relined_rules (n + 1) rules

-- policies whose rules have the numbers of their lines, if the first heading is on line n
abbrev pub relined_from : ℕ → List Policy → List Policy
relined_from n [] = []
relined_from n (policy ∷ policies) =
    record policy { rules = relined_rules (n + 1) policy.rules } ∷ relined_from (n + 1 + length policy.rules) policies

-- policies whose rules have the numbers of the lines on which they are printed
abbrev pub relined : List Policy → List Policy
relined policies = relined_from 2 policies
