-- The lines of rules that are printed are read as these rules.
use Rattle.std.proofs.Common.{◌≡◌, ◌∙◌, ℕ, suc, ◌+◌, ◌≤◌, nat_le, true, List, [], ◌∷◌, ◌++◌, Some, Ok, Err, Result, length, ap, refl, arith}
use Rattle.std.specs.Prelude.{if◌then◌else◌}
use Rattle.std.proofs.lemmas.Bool.Decides.{nat_tests}
use Rattle.sb_call.specs.declared.tags.CallTag.{CallTag}
use Rattle.sb_rule.specs.WellMade.{is_for_readers}
use Rattle.sb_rule.specs.declared.actions.Action.{Action}
use Rattle.sb_rule.specs.declared.actions.Action.TheVariants.{Allow, Deny, Alarm, Fake, ReadOnly}
use Rattle.sb_rule.specs.declared.conditions.Cond.{Cond}
use Rattle.sb_rule.specs.declared.policies.Policy.{Policy}
use Rattle.sb_rule.specs.declared.policies.Rule.{Rule}
use Rattle.sb_text.specs.TokenLaws.{placed}
use Rattle.sb_text.specs.Tokens.{Lexeme, Lexemes, Word}
use Rattle.sb_rule.specs.Limits.{most_rules}
use Rattle.sb_ruletext.proofs.Added.{added, behind, last_rules, policy_of}
use Rattle.sb_ruletext.specs.Lines.{first_word_fault, when_of, rule, with_last_rules, line_of}
use Rattle.sb_ruletext.specs.Printing.{conds_tokens, rule_tokens}
use Rattle.sb_text.specs.Steps.{◌>>=◌, or_fails, unless_fails, at_token, Read}
use Rattle.sb_text.specs.declared.refusals.TokenFault.{TokenFault}
use Rattle.sb_call.specs.CallWords.{call_word}
use Rattle.sb_rule.specs.Actions.{action_word}
use Rattle.sb_ruletext.specs.Words.{action_of}
use Rattle.sb_ruletext.specs.declared.faults.PolicyFaultKind.{PolicyFaultKind}
use Rattle.sb_ruletext.specs.declared.faults.PolicyFaultKind.TheVariants.{UnknownCall, TooMany, NotReadOnly}
use Rattle.sb_ruletext.specs.declared.faults.PolicyLimit.TheVariants.{Rules}
use Rattle.sb_ruletext.proofs.PrintedConditions.{AreSound, Texts, conditions_read}
use Rattle.sb_ruletext.proofs.PrintedWords.{call_back}

-- the conditions of a line

when_read : Texts → (tag : CallTag) (conds : List Cond) → nat_le (length conds) 8 ≡ true → AreSound tag conds
    → when_of tag (placed (conds_tokens tag conds)) ≡ Ok conds
when_read laws tag [] k s = refl
when_read laws tag (cond ∷ conds) k s = conditions_read laws tag cond conds (few conds k) s
  where
    few : (conds : List Cond) → nat_le (suc (length conds)) 8 ≡ true → length conds ≤ 7
    few conds k = grind (arith, nat_tests)

-- a rule with these conditions on a line
abbrev ruled : ℕ → Action → CallTag → List Cond → Result (List Rule) (TokenFault PolicyFaultKind)
ruled line action tag conds = Ok (record { tag = tag; conds = conds; action = action; line = line } ∷ [])

-- a call, and the tokens after it
abbrev then_tokens : Lexemes → CallTag → Read CallTag PolicyFaultKind
then_tokens tokens tag = Ok (tag, tokens)

rule_read : Texts → (line : ℕ) (action : Action) (tag : CallTag) (conds : List Cond)
    → is_for_readers action tag ≡ true → nat_le (length conds) 8 ≡ true → AreSound tag conds
    → rule line action (placed (Word (call_word tag) ∷ conds_tokens tag conds)) ≡ Ok (record { tag = tag; conds = conds; action = action; line = line } ∷ [])
unfolding rule
rule_read laws line action tag conds r k s =
    let tokens = placed (conds_tokens tag conds) in
    let all = placed (Word (call_word tag) ∷ conds_tokens tag conds) in
    ap (λ o. (or_fails all UnknownCall o >>= then_tokens tokens) >>= λ call. unless_fails all NotReadOnly (is_for_readers action call.0) >>= λ may. when_of call.0 call.1 >>= ruled line action call.0) (call_back tag)
    ∙ ap (λ t. unless_fails all NotReadOnly t >>= λ may. when_of tag tokens >>= ruled line action tag) r
    ∙ ap (λ conds. conds >>= ruled line action tag) (when_read laws tag conds k s)

-- one rule more in the last policy

added_last : (line : Lexemes) (done : List Policy) (policy : Policy) (rules : List Rule)
    → added line (done ++ policy ∷ []) (Ok rules) ≡ at_token line (with_last_rules (done ++ policy ∷ []) rules)
added_last line [] policy rules = refl
added_last line (first ∷ done) policy rules = refl

room : (n m : ℕ) → n + m ≤ 256 → nat_le (n + m) most_rules ≡ true
room n m h = grind (arith, nat_tests)

-- a line whose first word is an action
action_line : (version : ℕ) (policies : List Policy) (line : ℕ) (action : Action) (tokens : List Lexeme)
    → line_of version policies line (placed (Word (action_word action) ∷ tokens))
    ≡ or_fails (placed (Word (action_word action) ∷ tokens)) (first_word_fault (action_word action)) (action_of version (action_word action))
    >>= λ by. added (placed (Word (action_word action) ∷ tokens)) policies (rule line by (placed tokens))
unfolding line_of
action_line version policies line Allow tokens = refl
action_line version policies line Deny tokens = refl
action_line version policies line Alarm tokens = refl
action_line version policies line Fake tokens = refl
action_line version policies line ReadOnly tokens = refl

-- the line of a rule adds this rule to the last policy
pub rule_line_read : Texts → (version : ℕ) (done : List Policy) (name : List ℕ) (before : List Rule) (line : ℕ) (r : Rule)
    → action_of version (action_word r.action) ≡ Some r.action → is_for_readers r.action r.tag ≡ true → nat_le (length r.conds) 8 ≡ true → AreSound r.tag r.conds
    → length before + 1 ≤ 256
    → line_of version (done ++ policy_of name before ∷ []) line (placed (rule_tokens r)) ≡ Ok (done ++ policy_of name (before ++ record r { line = line } ∷ []) ∷ [])
rule_line_read laws version done name before line r a f k s few =
    let policies = done ++ policy_of name before ∷ [] in
    let tokens = Word (call_word r.tag) ∷ conds_tokens r.tag r.conds in
    let made = record r { line = line } in
    let all = placed (Word (action_word r.action) ∷ tokens) in
    action_line version policies line r.action tokens
    ∙ ap (λ o. or_fails all (first_word_fault (action_word r.action)) o >>= λ action. added all policies (rule line action (placed tokens))) a
    ∙ ap (added all policies) (rule_read laws line r.action r.tag r.conds f k s)
    ∙ added_last all done (policy_of name before) (made ∷ [])
    ∙ ap (at_token all) (last_rules done (policy_of name before) (made ∷ [])
    ∙ ap (λ t. (if t then Ok (policy_of name (before ++ made ∷ [])) else Err (TooMany Rules)) >>= behind done) (room (length before) 1 few))
