-- The lines of a policy text below its version line.
use Rattle.std.specs.Prelude.{ℕ, Bool, true, false, ◌+◌, nat_le, nat_lt, List, [], ◌∷◌, ◌++◌, length, Result, Ok, Err, if◌then◌else◌, codes}
use Rattle.std.specs.List.{list_any}
use Rattle.sb_call.specs.ShortNames.{is_short_name}
use Rattle.sb_call.specs.declared.tags.CallTag.{CallTag}
use Rattle.sb_rule.specs.Limits.{most_policies, most_rules}
use Rattle.sb_rule.specs.WellMade.{is_for_readers, is_named}
use Rattle.sb_rule.specs.declared.actions.Action.{Action}
use Rattle.sb_rule.specs.declared.conditions.Cond.{Cond}
use Rattle.sb_rule.specs.declared.policies.Policy.{Policy}
use Rattle.sb_rule.specs.declared.policies.Rule.{Rule}
use Rattle.sb_ruletext.specs.Conditions.{cells_at, conditions_of}
use Rattle.sb_ruletext.specs.Grants.{grant_of, rules_of}
use Rattle.sb_call.specs.CallWords.{is_word, tag_of_word}
use Rattle.sb_ruletext.specs.Steps.{word_or, line_end}
use Rattle.sb_ruletext.specs.Words.{action_of}
use Rattle.sb_ruletext.specs.declared.faults.PolicyFaultKind.{PolicyFaultKind}
use Rattle.sb_ruletext.specs.declared.faults.PolicyLimit.TheVariants.{Policies, Rules}
use Rattle.sb_ruletext.specs.declared.faults.PolicyFaultKind.TheVariants.{UnknownWord, OtherWord, UnknownCall, TooMany, SameName, NoHeading, NotReadOnly}
use Rattle.sb_ruletext.specs.declared.faults.WordDue.TheVariants as word_due
use Rattle.sb_ruletext.specs.declared.grants.Grant.{Grant}
use Rattle.sb_text.specs.Columns.{fails}
use Rattle.sb_text.specs.Steps.{◌>>=◌, or_fails, unless_fails, at_token, Read, begins_with, later, is_end}
use Rattle.sb_text.specs.Tokens.{Lexemes, Next, Bad}
use Rattle.sb_text.specs.declared.refusals.TokenFault.{TokenFault}
use Rattle.sb_text.specs.declared.refusals.WordFault.TheVariants.{Broken, Quoted, Unquoted, Misplaced}

-- there is a policy
abbrev pub is_headed : List Policy → Bool
is_headed [] = false
is_headed (policy ∷ policies) = true

-- NAME: a short name that no policy so far has
abbrev pub new_name : List Policy → List ℕ → Result (List ℕ) PolicyFaultKind
new_name policies name =
    if is_short_name name
    then (if list_any (is_named name) policies then Err SameName else Ok name)
    else Err (OtherWord word_due.Name)

-- the name of a policy
abbrev pub name_at : List Policy → Lexemes → Read (List ℕ) PolicyFaultKind
name_at policies tokens = do
  (word, rest) ← word_or (UnknownWord Quoted) tokens
  name ← at_token tokens (new_name policies word)
  Ok (name, rest)

-- one more policy, which has no rules yet
abbrev pub with_policy : List Policy → List ℕ → Result (List Policy) PolicyFaultKind
with_policy policies name =
    if nat_lt (length policies) most_policies then Ok (policies ++ record { name = name; rules = [] } ∷ []) else Err (TooMany Policies)

-- `policy NAME`: the policies so far and this one. One too many is a fault of the whole line
unfoldable pub heading : List Policy → Lexemes → Lexemes → Result (List Policy) (TokenFault PolicyFaultKind)
heading policies line tokens = do
  (name, rest) ← name_at policies tokens
  end ← line_end rest
  at_token line (with_policy policies name)

-- the name of a call
abbrev pub call_at : Lexemes → Read CallTag PolicyFaultKind
call_at tokens = do
  (word, rest) ← word_or UnknownCall tokens
  tag ← or_fails tokens UnknownCall (tag_of_word word)
  Ok (tag, rest)

-- what is here in place of `when`
abbrev pub end_at_when : {A : Type 0} → Lexemes → Result A (TokenFault PolicyFaultKind)
end_at_when (Next place Bad tokens) = fails (Next place Bad tokens) (UnknownWord Broken)
end_at_when tokens = fails tokens (OtherWord word_due.When)

-- nothing, or `when` and conditions, up to the line's end
abbrev pub when_of : CallTag → Lexemes → Result (List Cond) (TokenFault PolicyFaultKind)
when_of tag tokens =
    if is_end tokens then Ok []
    else (if begins_with (codes "when") tokens then conditions_of tag (later tokens) else end_at_when tokens)

-- `ACTION CALL` and `ACTION CALL when COND and COND ..`, after its first word: the rule
unfoldable pub rule : ℕ → Action → Lexemes → Result (List Rule) (TokenFault PolicyFaultKind)
rule line action tokens = do
  (tag, rest) ← call_at tokens
  may ← unless_fails tokens NotReadOnly (is_for_readers action tag)
  conds ← when_of tag rest
  Ok (record { tag = tag; conds = conds; action = action; line = line } ∷ [])

-- the word of a grant
abbrev pub grant_at : Lexemes → Read Grant PolicyFaultKind
grant_at tokens = do
  (word, rest) ← word_or (UnknownWord Quoted) tokens
  grant ← or_fails tokens (OtherWord word_due.Grant) (grant_of word)
  Ok (grant, rest)

-- `grant GRANT "PATTERN"`, after its first word: the rules of the grant
unfoldable pub grant : ℕ → Lexemes → Result (List Rule) (TokenFault PolicyFaultKind)
grant line tokens = do
  (grant, rest) ← grant_at tokens
  (cells, after) ← cells_at (UnknownWord Unquoted) rest
  end ← line_end after
  Ok (rules_of line grant cells)

-- a policy with more rules at its end
abbrev pub with_rules : Policy → List Rule → Result Policy PolicyFaultKind
with_rules policy rules =
    if nat_le (length policy.rules + length rules) most_rules then Ok (record { name = policy.name; rules = policy.rules ++ rules }) else Err (TooMany Rules)

-- the policies with more rules at the end of the last of them
unfoldable pub with_last_rules : List Policy → List Rule → Result (List Policy) PolicyFaultKind
with_last_rules [] rules = Err NoHeading
with_last_rules (policy ∷ []) rules = with_rules policy rules >>= λ last. Ok (last ∷ [])
with_last_rules (policy ∷ next ∷ policies) rules = with_last_rules (next ∷ policies) rules >>= λ others. Ok (policy ∷ others)

-- the policies with the rules of a grant at the end of the last: NoHeading, or the fault of the grant, or too many rules. The first and the last are
-- faults of the whole line
abbrev pub with_grant : List Policy → ℕ → Lexemes → Lexemes → Result (List Policy) (TokenFault PolicyFaultKind)
with_grant policies number line tokens = do
  headed ← unless_fails line NoHeading (is_headed policies)
  rules ← grant number tokens
  at_token line (with_last_rules policies rules)

-- the same of a rule
abbrev pub with_rule : List Policy → ℕ → Action → Lexemes → Lexemes → Result (List Policy) (TokenFault PolicyFaultKind)
with_rule policies number action line tokens = do
  headed ← unless_fails line NoHeading (is_headed policies)
  rules ← rule number action tokens
  at_token line (with_last_rules policies rules)

-- why a first word is not known: `readonly` is, in a text of version 2
abbrev pub first_word_fault : List ℕ → PolicyFaultKind
first_word_fault word = if is_word (codes "readonly") word then UnknownWord Misplaced else OtherWord word_due.Line

-- the policies so far and what a line adds to them
unfoldable pub line_of : ℕ → List Policy → ℕ → Lexemes → Result (List Policy) (TokenFault PolicyFaultKind)
line_of version policies number line = do
  (word, rest) ← word_or (UnknownWord Quoted) line
  if is_word (codes "policy") word then heading policies line rest
      else (if is_word (codes "grant") word then with_grant policies number line rest
      else (or_fails line (first_word_fault word) (action_of version word) >>= λ action. with_rule policies number action line rest))
