-- The text of policies is read as these policies.
use Rattle.std.proofs.Common.{◌≡◌, ◌∙◌, ℕ, suc, ◌+◌, ◌<◌, ◌≤◌, nat_le, nat_lt, Bool, true, false, not, ◌&&◌, ◌||◌, List, [], ◌∷◌, ◌++◌, Some, Ok, Err, Result, length, map, ap, refl, subst, sym, arith}
use Rattle.std.specs.Cmp.Lexicographic.{pointwise, bytes_decides}
use Rattle.std.specs.List.{flat_map, list_all, list_any}
use Rattle.std.specs.Prelude.{codes, nat_eq, if◌then◌else◌}
use Rattle.std.proofs.lemmas.Bool.{and_from, and_parts, or_parts}
use Rattle.std.proofs.lemmas.Bool.Decides.{nat_tests}
use Rattle.std.proofs.lemmas.List.{append_assoc, append-nil, length-append}
use Rattle.std.proofs.lemmas.List.Folds.{list_any-append}
use Rattle.sb_call.specs.ShortNames.{is_short_name}
use Rattle.sb_rule.specs.Limits.{most_policies}
use Rattle.sb_ruletext.proofs.PrintedConditions.{Texts}
use Rattle.sb_rule.specs.WellMade.{is_well_made_rule, is_well_made, are_well_made, is_named, are_named_apart}
use Rattle.sb_rule.specs.declared.policies.Policy.{Policy}
use Rattle.sb_rule.specs.declared.policies.Rule.{Rule}
use Rattle.sb_text.specs.Tokens.{Lexeme, Lexemes, Word, by_tokens}
use Rattle.sb_text.specs.TokenLaws.{placed, written_line}
use Rattle.sb_text.specs.Utf8Laws.{NotUtf8PlaceTells}
use Rattle.sb_text.specs.declared.refusals.TokenFault.{TokenFault}
use Rattle.sb_text.specs.declared.refusals.LineFault.{LineFault}
use Rattle.sb_text.specs.declared.refusals.WordFault.TheVariants.{Extra, Broken}
use Rattle.sb_ruletext.specs.Lines.{heading, line_of}
use Rattle.sb_ruletext.specs.PolicyTexts.{grammar, reading}
use Rattle.sb_ruletext.specs.Printing.{rule_tokens, heading_tokens, policy_lines, is_read_only, has_read_only, version_tokens, printed_lines, printed, relined_rules, relined_from, relined}
use Rattle.sb_ruletext.specs.Values.{is_rule_of_values, is_policy_of_values}
use Rattle.sb_ruletext.specs.PrintingLaws.{PrintedPoliciesAreRead}
use Rattle.sb_text.specs.Readings.{on_line, read_lines, read_by}
use Rattle.sb_text.specs.Lines.{NumberedLine}
use Rattle.sb_text.specs.Steps.{◌>>=◌, at_token, Read, end_at, version_at}
use Rattle.sb_rule.specs.Actions.{action_word}
use Rattle.sb_ruletext.specs.Words.{action_of}
use Rattle.sb_ruletext.proofs.Prefixes.{read_by_lines}
use Rattle.sb_ruletext.specs.declared.faults.PolicyFaultKind.{PolicyFaultKind}
use Rattle.sb_ruletext.specs.declared.faults.WordDue.TheVariants as word_due
use Rattle.sb_ruletext.specs.declared.faults.PolicyFaultKind.TheVariants.{BadVersion, OtherWord, UnknownWord, TooMany, SameName}
use Rattle.sb_ruletext.specs.declared.faults.PolicyLimit.TheVariants.{Policies}
use Rattle.sb_text.specs.PlainLines.{is_plain_line, numbered, PlainLinesAreUtf8, PlainLinesAreRead, PlainTokensAreRead}
use Rattle.sb_ruletext.proofs.Added.{policy_of}
use Rattle.sb_ruletext.proofs.PrintedRules.{rule_line_read}
use Rattle.sb_ruletext.proofs.PrintedTokens.{sound_conds, rule_plain, heading_plain, printed_plain}
use Rattle.sb_ruletext.proofs.PrintedWords.{not_true, action_back, first_action_back}

-- the laws of lower crates that the proof uses
pub record Laws : Type 0 where
  pub utf8 : NotUtf8PlaceTells
  pub plain : PlainLinesAreUtf8
  pub lines : PlainLinesAreRead
  pub tokens : PlainTokensAreRead
  pub texts : Texts

-- each action is one of the version
abbrev AreActions : ℕ → List Rule → Type 0
AreActions version [] = Unit {0}
AreActions version (rule ∷ rules) = (action_of version (action_word rule.action) ≡ Some rule.action) × AreActions version rules

abbrev AreActionsOfAll : ℕ → List Policy → Type 0
AreActionsOfAll version [] = Unit {0}
AreActionsOfAll version (policy ∷ policies) = AreActions version policy.rules × AreActionsOfAll version policies

-- a line

line_read : Laws → (version : ℕ) (done more : List Policy) (n : ℕ) (tokens : List Lexeme) (lines : List (List Lexeme)) → is_plain_line tokens ≡ true
    → line_of version done n (placed tokens) ≡ Ok more → read_lines grammar version done (numbered n (tokens ∷ lines)) ≡ read_lines grammar version more (numbered (n + 1) lines)
unfolding read_lines
line_read laws version done more n tokens lines p e =
    let line : NumberedLine = record { number = n; text = written_line tokens } in
    ap (λ tokens. on_line by_tokens line (line_of version done n tokens) >>= λ more. read_lines grammar version more (numbered (n + 1) lines)) (laws.tokens tokens p)
    ∙ ap (λ r. on_line by_tokens line r >>= λ more. read_lines grammar version more (numbered (n + 1) lines)) e

-- the rules of a policy

rules_read : Laws → (version : ℕ) (done : List Policy) (name : List ℕ) (before : List Rule) (n : ℕ) (rules : List Rule) (lines : List (List Lexeme))
    → list_all is_well_made_rule rules ≡ true → list_all is_rule_of_values rules ≡ true → AreActions version rules → length before + length rules ≤ 256
    → read_lines grammar version (done ++ policy_of name before ∷ []) (numbered n (map rule_tokens rules ++ lines))
    ≡ read_lines grammar version (done ++ policy_of name (before ++ relined_rules n rules) ∷ []) (numbered (n + length rules) lines)
rules_read laws version done name before n [] lines h v a few =
    ap (λ rules. read_lines grammar version (done ++ policy_of name rules ∷ []) (numbered n lines)) (sym (append-nil before))
    ∙ ap (λ n. read_lines grammar version (done ++ policy_of name (before ++ []) ∷ []) (numbered n lines)) {x = n} {y = n + 0} (omega arith)
rules_read laws version done name before n (rule ∷ rules) lines h v a few =
    let made = record rule { line = n } in
    let formed = (and_parts _ _ h).0 in
    line_read laws version (done ++ policy_of name before ∷ []) (done ++ policy_of name (before ++ made ∷ []) ∷ []) n (rule_tokens rule) (map rule_tokens rules ++ lines)
    (rule_plain laws.texts rule formed (and_parts _ _ v).0)
    (rule_line_read laws.texts version done name before n rule a.0 (and_parts _ _ (and_parts _ _ formed).0).1 (and_parts _ _ (and_parts _ _ formed).0).0
    (sound_conds rule formed (and_parts _ _ v).0) (omega arith))
    ∙ rules_read laws version done name (before ++ made ∷ []) (n + 1) rules lines (and_parts _ _ h).1 (and_parts _ _ v).1 a.1 (omega (arith, length-append before (made ∷ [])))
    ∙ ap (λ all. read_lines grammar version (done ++ policy_of name all ∷ []) (numbered (n + 1 + length rules) lines)) (append_assoc before (made ∷ []) (relined_rules (n + 1) rules))
    ∙ ap (λ m. read_lines grammar version (done ++ policy_of name (before ++ made ∷ relined_rules (n + 1) rules) ∷ []) (numbered m lines))
    {x = n + 1 + length rules} {y = n + suc (length rules)} (omega arith)

-- a heading

-- a name, with which the line ends
abbrev then_end : List ℕ → Read (List ℕ) PolicyFaultKind
then_end name = Ok (name, placed [])

-- what `heading` does with a name, if there is room for one more policy or not
abbrev headed : List Policy → Lexemes → Lexemes → Bool → Result (List ℕ) PolicyFaultKind → Result (List Policy) (TokenFault PolicyFaultKind)
headed done line tokens few name =
    (at_token tokens name >>= then_end)
    >>= λ name. end_at (UnknownWord Extra) (UnknownWord Broken) name.1 >>= λ end. at_token line (if few then Ok (done ++ policy_of name.0 [] ∷ []) else Err (TooMany Policies))

heading_read : (version : ℕ) (done : List Policy) (n : ℕ) (policy : Policy) → is_short_name policy.name ≡ true → list_any (is_named policy.name) done ≡ false
    → nat_lt (length done) most_policies ≡ true → line_of version done n (placed (heading_tokens policy)) ≡ Ok (done ++ policy_of policy.name [] ∷ [])
unfolding line_of heading
heading_read version done n policy short new few = by_tests (is_short_name policy.name) (list_any (is_named policy.name) done) (nat_lt (length done) most_policies) short new few
  where
    by_tests : (s t u : Bool) → s ≡ true → t ≡ false → u ≡ true
        → headed done (placed (heading_tokens policy)) (placed (Word policy.name ∷ [])) u (if s then (if t then Err SameName else Ok policy.name) else Err (OtherWord word_due.Name))
        ≡ Ok (done ++ policy_of policy.name [] ∷ [])
    by_tests s t u e f g = rw (e, f, g) refl

-- a policy

policy_read : Laws → (version : ℕ) (done : List Policy) (n : ℕ) (policy : Policy) (lines : List (List Lexeme))
    → is_well_made policy ≡ true → is_policy_of_values policy ≡ true → AreActions version policy.rules
    → list_any (is_named policy.name) done ≡ false → nat_lt (length done) most_policies ≡ true
    → read_lines grammar version done (numbered n (policy_lines policy ++ lines))
    ≡ read_lines grammar version (done ++ record policy { rules = relined_rules (n + 1) policy.rules } ∷ []) (numbered (n + 1 + length policy.rules) lines)
policy_read laws version done n policy lines h v a new few =
    line_read laws version done (done ++ policy_of policy.name [] ∷ []) n (heading_tokens policy) (map rule_tokens policy.rules ++ lines)
    (heading_plain policy (and_parts _ _ v).0) (heading_read version done n policy (and_parts _ _ v).0 new few)
    ∙ rules_read laws version done policy.name [] (n + 1) policy.rules lines (and_parts _ _ h).1 (and_parts _ _ v).1 a (most policy.rules (and_parts _ _ h).0)
  where
    most : (rules : List Rule) → nat_le (length rules) 256 ≡ true → 0 + length rules ≤ 256
    most rules k = grind (arith, nat_tests)

-- names that no policy so far has

abbrev are_new : List Policy → List Policy → Bool
are_new done [] = true
are_new done (policy ∷ policies) = not (list_any (is_named policy.name) done) && are_new done policies

truths : (a b : Bool) → (a ≡ true → b ≡ true) → (b ≡ true → a ≡ true) → a ≡ b
truths true b f g = sym (f refl)
truths false true f g = g refl
truths false false f g = refl

turned : (a b : List ℕ) → pointwise nat_eq a b ≡ pointwise nat_eq b a
turned a b = truths _ _ (λ e. (bytes_decides b a).1 (sym ((bytes_decides a b).0 e))) (λ e. (bytes_decides a b).1 (sym ((bytes_decides b a).0 e)))

neither : (a b : Bool) → a ≡ false → b ≡ false → not (a || (b || false)) ≡ true
neither a b h k = rw (h, k) refl

new_more : (done : List Policy) (name : List ℕ) (rules : List Rule) (policies : List Policy) → are_new done policies ≡ true
    → list_any (is_named name) policies ≡ false → are_new (done ++ policy_of name rules ∷ []) policies ≡ true
new_more done name rules [] h k = refl
new_more done name rules (policy ∷ policies) h k =
    let parts = or_parts (is_named name policy) (list_any (is_named name) policies) k in
    and_from _ _
    (ap not (list_any-append (is_named policy.name) done (policy_of name rules ∷ []))
    ∙ neither (list_any (is_named policy.name) done) (pointwise nat_eq name policy.name) (not_true _ (and_parts _ _ h).0) (turned name policy.name ∙ parts.0))
    (new_more done name rules policies (and_parts _ _ h).1 parts.1)

new_to_none : (policies : List Policy) → are_new [] policies ≡ true
new_to_none [] = refl
new_to_none (policy ∷ policies) = new_to_none policies

-- the policies

policies_read : Laws → (version : ℕ) (done : List Policy) (n : ℕ) (policies : List Policy)
    → list_all is_well_made policies ≡ true → list_all is_policy_of_values policies ≡ true → AreActionsOfAll version policies
    → are_new done policies ≡ true → are_named_apart policies ≡ true → length done + length policies ≤ 8
    → read_lines grammar version done (numbered n (flat_map policy_lines policies)) ≡ Ok (done ++ relined_from n policies)
unfolding read_lines
policies_read laws version done n [] h v a new apart few = ap Ok (sym (append-nil done))
policies_read laws version done n (policy ∷ policies) h v a new apart few =
    let made = record policy { rules = relined_rules (n + 1) policy.rules } in
    policy_read laws version done n policy (flat_map policy_lines policies) (and_parts _ _ h).0 (and_parts _ _ v).0 a.0 (not_true _ (and_parts _ _ new).0) (room (length done) (omega arith))
    ∙ policies_read laws version (done ++ made ∷ []) (n + 1 + length policy.rules) policies (and_parts _ _ h).1 (and_parts _ _ v).1 a.1
    (new_more done policy.name (relined_rules (n + 1) policy.rules) policies (and_parts _ _ new).1 (not_true _ (and_parts _ _ apart).0))
    (and_parts _ _ apart).1 (omega (arith, length-append done (made ∷ [])))
    ∙ ap Ok (append_assoc done (made ∷ []) (relined_from (n + 1 + length policy.rules) policies))
  where
    room : (k : ℕ) → k < 8 → nat_lt k most_policies ≡ true
    room k h = grind (arith, nat_tests)

-- the version

all_actions : (rules : List Rule) → AreActions 2 rules
all_actions [] = tt
all_actions (rule ∷ rules) = (action_back rule.action, all_actions rules)

all_actions_of_all : (policies : List Policy) → AreActionsOfAll 2 policies
all_actions_of_all [] = tt
all_actions_of_all (policy ∷ policies) = (all_actions policy.rules, all_actions_of_all policies)

first_actions : (rules : List Rule) → list_any (λ rule. is_read_only rule.action) rules ≡ false → AreActions 1 rules
first_actions [] h = tt
first_actions (rule ∷ rules) h = let parts = or_parts _ _ h in (first_action_back rule.action parts.0, first_actions rules parts.1)

first_actions_of_all : (policies : List Policy) → list_any has_read_only policies ≡ false → AreActionsOfAll 1 policies
first_actions_of_all [] h = tt
first_actions_of_all (policy ∷ policies) h = let parts = or_parts _ _ h in (first_actions policy.rules parts.0, first_actions_of_all policies parts.1)

-- the whole text

-- the first line of policies, if some rule only lets read or none does
abbrev version_line : Bool → List Lexeme
version_line t = Word (codes "sandbox-policy") ∷ Word (if t then codes "2" else codes "1") ∷ []

-- what a first line with these tokens and the lines after it are read as
abbrev read_after : List Lexeme → List (List Lexeme) → Result (List Policy) (LineFault PolicyFaultKind)
read_after tokens lines =
    on_line by_tokens (record { number = 1; text = written_line tokens }) (version_at BadVersion (codes "sandbox-policy") 2 (placed tokens))
    >>= λ version. read_lines grammar version [] (numbered 2 lines)

below_read : Laws → (policies : List Policy) → list_all is_well_made policies ≡ true → list_all is_policy_of_values policies ≡ true
    → are_named_apart policies ≡ true → length policies ≤ 8 → (t : Bool) → list_any has_read_only policies ≡ t
    → read_after (version_line t) (flat_map policy_lines policies) ≡ Ok (relined policies)
below_read laws policies h v apart few true e = policies_read laws 2 [] 2 policies h v (all_actions_of_all policies) (new_to_none policies) apart (omega arith)
below_read laws policies h v apart few false e = policies_read laws 1 [] 2 policies h v (first_actions_of_all policies e) (new_to_none policies) apart (omega arith)

pub printed_read : Laws → PrintedPoliciesAreRead
printed_read laws policies h v =
    let made = (and_parts _ _ h).1 in
    let plain = printed_plain laws.texts policies made v in
    read_by_lines (printed policies) (laws.utf8.0 (printed policies) (laws.plain (printed_lines policies) plain))
    ∙ ap (read_by grammar) (laws.lines (printed_lines policies) plain)
    ∙ ap (λ tokens. on_line by_tokens (record { number = 1; text = written_line (version_tokens policies) }) (version_at BadVersion (codes "sandbox-policy") 2 tokens)
    >>= λ version. read_lines grammar version [] (numbered 2 (flat_map policy_lines policies))) (laws.tokens (version_tokens policies) (and_parts _ _ plain).0)
    ∙ below_read laws policies made v (and_parts _ _ (and_parts _ _ h).0).1 (most policies (and_parts _ _ (and_parts _ _ h).0).0) (list_any has_read_only policies) refl
  where
    most : (policies : List Policy) → nat_le (length policies) 8 ≡ true → length policies ≤ 8
    most policies k = grind (arith, nat_tests)

-- a text that is the printing of policies is read as these policies
pub printed_again : (policies list : List Policy) (text : List ℕ) → PrintedPoliciesAreRead → list ≡ policies → are_well_made policies ≡ true
    → list_all is_policy_of_values list ≡ true → text ≡ printed list → reading text ≡ Ok (relined policies)
printed_again policies list text law same h v e =
    ap reading (e ∙ ap printed same) ∙ law policies h (subst (λ l. list_all is_policy_of_values l ≡ true) same v)
