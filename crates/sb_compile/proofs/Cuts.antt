-- Code is cut into the rules and the groups that it was made of.
use Rattle.std.specs.List.{flat_map, list_all, onto_first}
use Rattle.std.proofs.Common.{◌≡◌, ◌∙◌, ℕ, Bool, true, false, not, cond, List, [], ◌∷◌, ◌++◌, ◌&&◌, filter, map, refl, ap}
use Rattle.std.proofs.lemmas.Bool.{and_parts, false≢true}
use Rattle.std.proofs.lemmas.List.Folds.{list_all-append}
use Rattle.sb_call.specs.declared.tags.CallTag.{CallTag}
use Rattle.sb_rule.specs.WellMade.{is_well_formed}
use Rattle.sb_rule.specs.declared.conditions.Cond.{Cond}
use Rattle.sb_rule.specs.declared.policies.Rule.{Rule}
use Rattle.sb_opcode.specs.Groups.{is_act, is_last, cut_after, rules_of, groups_of}
use Rattle.sb_opcode.specs.Opcodes.{Opcode}
use Rattle.sb_opcode.specs.Opcodes as op
use Rattle.sb_compile.specs.Compiling.{opcode, closed, cond_code, rule_code, test_code}
use Rattle.sb_compile.proofs.Ends.{is_plain, are_plain, kept}
use Rattle.sb_compile.proofs.Members.{is_member, are_members, member, members_plain, Group, test_group, is_placed_well, both}

-- a part ends with the first opcode that passes the test
abbrev pub is_part : (Opcode → Bool) → List Opcode → Bool
is_part test [] = false
is_part test (op ∷ []) = test op
is_part test (op ∷ next ∷ ops) = not (test op) && is_part test (next ∷ ops)

abbrev pub is_no : {b : Bool} → not b ≡ true → b ≡ false
is_no {b = true} h = absurd (false≢true h)
is_no {b = false} h = refl

cut_part : (test : Opcode → Bool) (part rest : List Opcode) → is_part test part ≡ true → cut_after test (part ++ rest) ≡ part ∷ cut_after test rest
cut_part test [] rest h = absurd (false≢true h)
cut_part test (op ∷ []) rest h = ap (λ b. cond b ((op ∷ []) ∷ cut_after test rest) (onto_first op (cut_after test rest))) h
cut_part test (op ∷ next ∷ ops) rest h =
    let p = and_parts (not (test op)) (is_part test (next ∷ ops)) h in
    let later = cut_after test ((next ∷ ops) ++ rest) in
    ap (λ b. cond b ((op ∷ []) ∷ later) (onto_first op later)) (is_no p.0) ∙ ap (onto_first op) (cut_part test (next ∷ ops) rest p.1)

cut_parts : {X : Type 0} (test : Opcode → Bool) (f : X → List Opcode) (xs : List X) → list_all (λ x. is_part test (f x)) xs ≡ true
    → cut_after test (flat_map f xs) ≡ map f xs
cut_parts test f [] h = refl
cut_parts test f (x ∷ xs) h =
    let p = and_parts (is_part test (f x)) (list_all (λ x. is_part test (f x)) xs) h in
    cut_part test (f x) (flat_map f xs) p.0 ∙ ap (λ l. f x ∷ l) (cut_parts test f xs p.1)

closed_part : (negated : Bool) (op : Opcode) (ops : List Opcode) → are_plain (op ∷ ops) ≡ true → is_part is_last (closed negated (op ∷ ops)) ≡ true
closed_part negated op [] h = (kept negated op.options.0 (and_parts (is_plain op) true h).0).clears_now
closed_part negated op (next ∷ []) h =
    let p = and_parts (is_plain op) (are_plain (next ∷ [])) h in
    λ i. not ((kept negated op.options.0 p.0).clears_not i) && closed_part negated next [] p.1 i
closed_part negated op (next ∷ third ∷ ops) h =
    let p = and_parts (is_plain op) (are_plain (next ∷ third ∷ ops)) h in
    λ i. not ((kept negated op.options.0 p.0).clears_not i) && closed_part negated next (third ∷ ops) p.1 i

-- no action
abbrev pub no_acts : List Opcode → Bool
no_acts ops = list_all (λ op. not (is_act op)) ops

members_no_acts : (tag : CallTag) (param : ℕ) (choice : Bool) (ops : List Opcode) → are_members tag param choice ops ≡ true → no_acts ops ≡ true
members_no_acts tag param choice [] h = refl
members_no_acts tag param choice (op ∷ ops) h =
    let p = and_parts (is_member tag param choice op) (are_members tag param choice ops) h in
    λ i. not ((member tag param choice op p.0).no_act i) && members_no_acts tag param choice ops p.1 i

closed_no_acts : (negated : Bool) (ops : List Opcode) → no_acts ops ≡ true → no_acts (closed negated ops) ≡ true
closed_no_acts negated [] h = refl
closed_no_acts negated (op ∷ []) h = h
closed_no_acts negated (op ∷ next ∷ ops) h =
    let p = and_parts (not (is_act op)) (no_acts (next ∷ ops)) h in
    both p.0 (closed_no_acts negated (next ∷ ops) p.1)

-- the group of a well-formed condition
pub cond_group : (tag : CallTag) (c : Cond) → is_well_formed tag c ≡ true → Group tag (test_code c.param c.test)
cond_group tag c w = let p = is_placed_well tag c w in test_group tag c.param c.test p.0 p.1

cond_part : (tag : CallTag) (c : Cond) → is_well_formed tag c ≡ true → is_part is_last (cond_code c) ≡ true
cond_part tag c w =
    let g = cond_group tag c w in
    ap (λ ops. is_part is_last (closed c.negated ops)) g.are
    ∙ closed_part c.negated g.first g.others (members_plain tag g.param g.choice (g.first ∷ g.others) g.members)

cond_no_acts : (tag : CallTag) (c : Cond) → is_well_formed tag c ≡ true → no_acts (cond_code c) ≡ true
cond_no_acts tag c w =
    let g = cond_group tag c w in
    ap (λ ops. no_acts (closed c.negated ops)) g.are
    ∙ closed_no_acts c.negated (g.first ∷ g.others) (members_no_acts tag g.param g.choice (g.first ∷ g.others) g.members)

conds_parts : (tag : CallTag) (cs : List Cond) → list_all (is_well_formed tag) cs ≡ true → list_all (λ c. is_part is_last (cond_code c)) cs ≡ true
conds_parts tag [] h = refl
conds_parts tag (c ∷ cs) h =
    let p = and_parts (is_well_formed tag c) (list_all (is_well_formed tag) cs) h in
    both (cond_part tag c p.0) (conds_parts tag cs p.1)

pub conds_no_acts : (tag : CallTag) (cs : List Cond) → list_all (is_well_formed tag) cs ≡ true → no_acts (flat_map cond_code cs) ≡ true
conds_no_acts tag [] h = refl
conds_no_acts tag (c ∷ cs) h =
    let p = and_parts (is_well_formed tag c) (list_all (is_well_formed tag) cs) h in
    list_all-append (λ op. not (is_act op)) (cond_code c) (flat_map cond_code cs) ∙ both (cond_no_acts tag c p.0) (conds_no_acts tag cs p.1)

abbrev pub act_of : Rule → Opcode
act_of rule = opcode 0 0 (op.Act rule.action rule.line)

without_act : (ops : List Opcode) (rule : Rule) → no_acts ops ≡ true → filter (λ op. not (is_act op)) (ops ++ act_of rule ∷ []) ≡ ops
without_act [] rule h = refl
without_act (op ∷ ops) rule h =
    let p = and_parts (not (is_act op)) (no_acts ops) h in
    let later = filter (λ op. not (is_act op)) (ops ++ act_of rule ∷ []) in
    ap (λ b. cond b (op ∷ later) later) p.0 ∙ ap (λ l. op ∷ l) (without_act ops rule p.1)

-- the groups of a rule are those of its conditions
pub groups_are : (tag : CallTag) (rule : Rule) → list_all (is_well_formed tag) rule.conds ≡ true → groups_of (rule_code rule) ≡ map cond_code rule.conds
groups_are tag rule h =
    ap (cut_after is_last) (without_act (flat_map cond_code rule.conds) rule (conds_no_acts tag rule.conds h))
    ∙ cut_parts is_last cond_code rule.conds (conds_parts tag rule.conds h)

act_part : (ops : List Opcode) (rule : Rule) → no_acts ops ≡ true → is_part is_act (ops ++ act_of rule ∷ []) ≡ true
act_part [] rule h = refl
act_part (op ∷ []) rule h = let p = and_parts (not (is_act op)) true h in both p.0 refl
act_part (op ∷ next ∷ ops) rule h = let p = and_parts (not (is_act op)) (no_acts (next ∷ ops)) h in both p.0 (act_part (next ∷ ops) rule p.1)

-- a rule whose conditions are well formed for its own call
abbrev pub is_formed : Rule → Bool
is_formed rule = list_all (is_well_formed rule.tag) rule.conds

rules_parts : (rules : List Rule) → list_all is_formed rules ≡ true → list_all (λ rule. is_part is_act (rule_code rule)) rules ≡ true
rules_parts [] h = refl
rules_parts (rule ∷ rules) h =
    let p = and_parts (is_formed rule) (list_all is_formed rules) h in
    both (act_part (flat_map cond_code rule.conds) rule (conds_no_acts rule.tag rule.conds p.0)) (rules_parts rules p.1)

-- the rules of code are those that it was made of
pub rules_are : (rules : List Rule) → list_all is_formed rules ≡ true → rules_of (flat_map rule_code rules) ≡ map rule_code rules
rules_are rules h = cut_parts is_act rule_code rules (rules_parts rules h)
