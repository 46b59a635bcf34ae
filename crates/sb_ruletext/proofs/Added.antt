-- What is added to the policies so far.
use Rattle.std.proofs.Common.{◌≡◌, refl, sym, ap, ◌∙◌, ℕ, ◌+◌, ◌≤◌, ◌<◌, List, [], ◌∷◌, ◌++◌, Bool, true, false, not, ◌&&◌, ◌||◌, cond, length, length-append, nat_le, nat_eq, Result, Ok, Err, arith}
use Rattle.std.proofs.lemmas.Bool.{and_from, and_parts, or_parts}
use Rattle.std.proofs.lemmas.Bool.Decides.{nat_tests}
use Rattle.std.proofs.lemmas.List.Folds.{list_all-append, list_any-append}
use Rattle.std.specs.Cmp.{nat_eq_equiv, partial_equiv_from_equiv}
use Rattle.std.specs.Cmp.Lexicographic.{pointwise, lists_per}
use Rattle.std.specs.List.{list_all, list_any}
use Rattle.sb_rule.specs.WellMade.{is_well_made_rule, is_well_made, are_well_made, are_named_apart, is_named}
use Rattle.sb_rule.specs.declared.policies.Policy.{Policy}
use Rattle.sb_rule.specs.declared.policies.Rule.{Rule}
use Rattle.sb_ruletext.specs.Lines.{is_headed, with_rules, with_last_rules}
use Rattle.sb_text.specs.Columns.{fails}
use Rattle.sb_text.specs.Steps.{◌>>=◌, at_token, unless_fails}
use Rattle.sb_text.specs.Tokens.{Lexemes}
use Rattle.sb_text.specs.declared.refusals.TokenFault.{TokenFault}
use Rattle.sb_ruletext.specs.declared.faults.PolicyFaultKind.{PolicyFaultKind}
use Rattle.sb_ruletext.specs.declared.faults.PolicyFaultKind.TheVariants.{TooMany, NoHeading}
use Rattle.sb_ruletext.specs.declared.faults.PolicyLimit.TheVariants.{Rules}

-- the policies up to the last
abbrev pub behind : List Policy → Policy → Result (List Policy) PolicyFaultKind
behind before last = Ok (before ++ last ∷ [])

-- rules are added to the last policy
pub last_rules : (before : List Policy) (last : Policy) (rules : List Rule) → with_last_rules (before ++ last ∷ []) rules ≡ with_rules last rules >>= behind before
unfolding with_last_rules
last_rules [] last rules = refl
last_rules (policy ∷ []) last rules = more (with_rules last rules)
  where
    more : (r : Result Policy PolicyFaultKind) → ((r >>= λ last. Ok (last ∷ [])) >>= λ others. Ok (policy ∷ others)) ≡ r >>= behind (policy ∷ [])
    more (Ok last) = refl
    more (Err kind) = refl
last_rules (policy ∷ next ∷ before) last rules =
    ap (λ r. r >>= λ others. Ok (policy ∷ others)) (last_rules (next ∷ before) last rules) ∙ more (with_rules last rules)
  where
    more : (r : Result Policy PolicyFaultKind) → ((r >>= behind (next ∷ before)) >>= λ others. Ok (policy ∷ others)) ≡ r >>= behind (policy ∷ next ∷ before)
    more (Ok last) = refl
    more (Err kind) = refl

-- the policies so far with the rules of a line
abbrev pub added : Lexemes → List Policy → Result (List Rule) (TokenFault PolicyFaultKind) → Result (List Policy) (TokenFault PolicyFaultKind)
added line policies rules =
    unless_fails line NoHeading (is_headed policies) >>= λ headed. rules >>= λ rules. at_token line (with_last_rules policies rules)

-- the rules of a line are added, if the last policy has room for them
abbrev placed : Lexemes → List Policy → Policy → List Rule → Bool → Result (List Policy) (TokenFault PolicyFaultKind)
placed line before last rules room =
    at_token line (cond room (Ok (record { name = last.name; rules = last.rules ++ rules })) (Err (TooMany Rules)) >>= behind before)

placed_last : (line : Lexemes) (policies before : List Policy) (last : Policy) (rules : List Rule) (room : Bool) → policies ≡ before ++ last ∷ []
    → nat_le (length last.rules + length rules) 256 ≡ room → at_token line (with_last_rules policies rules) ≡ placed line before last rules room
placed_last line policies before last rules room e r =
    ap (λ (ps : List Policy). at_token line (with_last_rules ps rules)) e ∙ ap (at_token line) (last_rules before last rules) ∙ ap (placed line before last rules) r

pub placed_fits : (line : Lexemes) (policies before new : List Policy) (last : Policy) (rules all : List Rule) → policies ≡ before ++ last ∷ []
    → length last.rules + length rules ≤ 256 → all ≡ last.rules ++ rules → new ≡ before ++ record { name = last.name; rules = all } ∷ []
    → at_token line (with_last_rules policies rules) ≡ Ok new
placed_fits line policies before new last rules all e h a n =
    placed_last line policies before last rules true e (grind (arith, nat_tests, h))
    ∙ ap (λ (rs : List Rule). Ok (before ++ record { name = last.name; rules = rs } ∷ [])) (sym a)
    ∙ ap (λ (ps : List Policy). Ok ps) (sym n)

-- there is none
pub placed_too_many : (line : Lexemes) (policies before : List Policy) (last : Policy) (rules : List Rule) → policies ≡ before ++ last ∷ []
    → 256 < length last.rules + length rules → at_token line (with_last_rules policies rules) ≡ fails line (TooMany Rules)
placed_too_many line policies before last rules e h = placed_last line policies before last rules false e (grind (arith, nat_tests, h))

-- before the first heading there is no policy to which rules could be added
pub added_nowhere : (rules : List Rule) → with_last_rules [] rules ≡ Err NoHeading
unfolding with_last_rules
added_nowhere rules = refl

pub placed_nowhere : (line : Lexemes) (policies : List Policy) (rules : List Rule) → policies ≡ []
    → at_token line (with_last_rules policies rules) ≡ fails line NoHeading
placed_nowhere line policies rules e = ap (λ (ps : List Policy). at_token line (with_last_rules ps rules)) e ∙ ap (at_token line) (added_nowhere rules)

-- a policy of this name with these rules
abbrev pub policy_of : List ℕ → List Rule → Policy
policy_of name rules = record { name = name; rules = rules }

same_names : (name of : List ℕ) (before : List Policy) (old new : List Rule)
    → list_any (is_named name) (before ++ policy_of of new ∷ []) ≡ list_any (is_named name) (before ++ policy_of of old ∷ [])
same_names name of [] old new = refl
same_names name of (policy ∷ before) old new = ap (λ b. is_named name policy || b) (same_names name of before old new)

same_apart : (of : List ℕ) (before : List Policy) (old new : List Rule)
    → are_named_apart (before ++ policy_of of new ∷ []) ≡ are_named_apart (before ++ policy_of of old ∷ [])
same_apart of [] old new = refl
same_apart of (policy ∷ before) old new =
    ap (λ b. not b && are_named_apart (before ++ policy_of of new ∷ [])) (same_names policy.name of before old new)
    ∙ ap (λ b. not (list_any (is_named policy.name) (before ++ policy_of of old ∷ [])) && b) (same_apart of before old new)

same_length : (before : List Policy) (last new : Policy) → length (before ++ new ∷ []) ≡ length (before ++ last ∷ [])
same_length before last new = length-append before (new ∷ []) ∙ sym (length-append before (last ∷ []))

longer_well_made : (name : List ℕ) (old rules : List Rule) → is_well_made (policy_of name old) ≡ true → list_all is_well_made_rule rules ≡ true
    → length old + length rules ≤ 256 → is_well_made (policy_of name (old ++ rules)) ≡ true
longer_well_made name old rules h k l =
    let few : nat_le (length (old ++ rules)) 256 ≡ true = ap (λ n. nat_le n 256) (length-append old rules) ∙ grind (arith, nat_tests) in
    and_from _ _ few (list_all-append is_well_made_rule old rules ∙ and_from _ _ (and_parts _ _ h).1 k)

-- the last policy stays well made with more rules that are
pub well_made_longer : (before : List Policy) (name : List ℕ) (old rules : List Rule)
    → are_well_made (before ++ record { name = name; rules = old } ∷ []) ≡ true → list_all is_well_made_rule rules ≡ true
    → length old + length rules ≤ 256 → are_well_made (before ++ record { name = name; rules = old ++ rules } ∷ []) ≡ true
well_made_longer before name old rules h k l =
    let few = (and_parts _ _ (and_parts _ _ h).0).0 in
    let apart = (and_parts _ _ (and_parts _ _ h).0).1 in
    let each : (list_all is_well_made before && list_all is_well_made (policy_of name old ∷ [])) ≡ true =
    sym (list_all-append is_well_made before (policy_of name old ∷ [])) ∙ (and_parts _ _ h).1 in
    let last = longer_well_made name old rules (and_parts _ _ (and_parts _ _ each).1).0 k l in
    and_from _ _
    (and_from _ _ (ap (λ n. nat_le n 8) (same_length before (policy_of name old) (policy_of name (old ++ rules))) ∙ few) (same_apart name before old (old ++ rules) ∙ apart))
    (list_all-append is_well_made before (policy_of name (old ++ rules) ∷ []) ∙ and_from _ _ (and_parts _ _ each).0 (and_from _ _ last refl))

names_symm : (a b : List ℕ) → pointwise nat_eq a b ≡ pointwise nat_eq b a
names_symm = (lists_per (partial_equiv_from_equiv nat_eq_equiv)).symm

none_of : (p : Policy → Bool) (policies : List Policy) (last : Policy) → list_any p policies ≡ false → p last ≡ false
    → list_any p (policies ++ last ∷ []) ≡ false
none_of p policies last h k = list_any-append p policies (last ∷ []) ∙ rw (h) rw (k) refl

apart_with : (policies : List Policy) (last : Policy) → are_named_apart policies ≡ true → list_any (is_named last.name) policies ≡ false
    → are_named_apart (policies ++ last ∷ []) ≡ true
apart_with [] last h k = refl
apart_with (policy ∷ policies) last h k =
    let parts = or_parts (is_named last.name policy) (list_any (is_named last.name) policies) k in
    let others : list_any (is_named policy.name) policies ≡ false = not_true _ (and_parts _ _ h).0 in
    let other : is_named policy.name last ≡ false = names_symm last.name policy.name ∙ parts.0 in
    and_from _ _ (ap not (none_of (is_named policy.name) policies last others other)) (apart_with policies last (and_parts _ _ h).1 parts.1)
  where
    not_true : (b : Bool) → not b ≡ true → b ≡ false
    not_true false h = refl
    not_true true h = search h

-- one more policy, of another name
pub well_made_more : (policies : List Policy) (name : List ℕ) → are_well_made policies ≡ true → list_any (is_named name) policies ≡ false
    → length policies < 8 → are_well_made (policies ++ record { name = name; rules = [] } ∷ []) ≡ true
well_made_more policies name h k l =
    let few : nat_le (length (policies ++ policy_of name [] ∷ [])) 8 ≡ true =
    ap (λ n. nat_le n 8) (length-append policies (policy_of name [] ∷ [])) ∙ grind (arith, nat_tests) in
    and_from _ _ (and_from _ _ few (apart_with policies (policy_of name []) (and_parts _ _ (and_parts _ _ h).0).1 k))
    (list_all-append is_well_made policies (policy_of name [] ∷ []) ∙ and_from _ _ (and_parts _ _ h).1 refl)

pub chosen : (kind : PolicyFaultKind) (b : Bool) (policies new : List Policy) → cond b (Ok policies) (Err kind) ≡ Ok new → (b ≡ true) × (policies ≡ new)
chosen kind true policies new h = (refl, search h)
chosen kind false policies new h = search h

pub changed : (kind : PolicyFaultKind) (b : Bool) (before : List Policy) (last : Policy) (new : List Policy)
    → (cond b (Ok last) (Err kind) >>= behind before) ≡ Ok new → (b ≡ true) × (before ++ last ∷ [] ≡ new)
changed kind true before last new h = (refl, search h)
changed kind false before last new h = search h
