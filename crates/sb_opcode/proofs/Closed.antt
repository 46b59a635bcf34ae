-- In a code without a fault no action is within a group.
use Rattle.std.specs.Prelude.{Bool, true, false, not, ◌&&◌, List, [], ◌∷◌, if◌then◌else◌}
use Rattle.std.specs.List.{list_all, onto_first}
use Rattle.std.proofs.Common.{◌≡◌, ◌∙◌, cond, refl, ap, sym}
use Rattle.std.proofs.lemmas.Bool.{and_parts, and_from, not-true, false≢true}
use Rattle.sb_opcode.specs.Faults.{ends_with_act}
use Rattle.sb_opcode.specs.Groups.{rules_of, groups_of, is_act, is_last}
use Rattle.sb_opcode.specs.Options.{has_options}
use Rattle.sb_opcode.specs.WholeGroups.{ends_with_clear, are_alike, is_fit, is_whole_group, acts_at_end, is_whole_rule}
use Rattle.sb_opcode.specs.Opcodes.{Opcode}

-- no action is within a group, where these opcodes begin within one, or do not
abbrev pub closed_from : Bool → List Opcode → Bool
closed_from inside [] = true
closed_from inside (op ∷ ops) = if is_act op then not inside && closed_from false ops else closed_from (not (is_last op)) ops

-- the first of the groups is there, and has an opcode
abbrev pub has_group : List (List Opcode) → Bool
has_group [] = false
has_group ([] ∷ groups) = false
has_group ((op ∷ ops) ∷ groups) = true

abbrev pub goes_into_group : List (List Opcode) → Bool
goes_into_group [] = true
goes_into_group (rule ∷ rules) = has_group (groups_of rule)

-- the groups of a rule that begins with an opcode that is no action
pub groups_from : (op : Opcode) (rule : List Opcode) → is_act op ≡ false
    → groups_of (op ∷ rule) ≡ (if is_last op then (op ∷ []) ∷ groups_of rule else onto_first op (groups_of rule))
groups_from op rule h = rw h refl

-- a rule that ends with its action, and whose groups end with CLEAR
abbrev pub is_closed_rule : List Opcode → Bool
is_closed_rule rule = ends_with_act rule && list_all ends_with_clear (groups_of rule)

groups_closed : (groups : List (List Opcode)) → list_all is_whole_group groups ≡ true → list_all ends_with_clear groups ≡ true
groups_closed [] h = refl
groups_closed (group ∷ groups) h =
    let p = and_parts (is_whole_group group) (list_all is_whole_group groups) h in
    let q = and_parts (ends_with_clear group && are_alike group) (list_all is_fit group) p.0 in
    let r = and_parts (ends_with_clear group) (are_alike group) q.0 in
    and_from (ends_with_clear group) (list_all ends_with_clear groups) r.0 (groups_closed groups p.1)

act_at_end : (rule : List Opcode) → acts_at_end rule ≡ true → ends_with_act rule ≡ true
act_at_end [] h = h
act_at_end (op ∷ []) h = (and_parts (is_act op) (not (has_options op.options)) h).0
act_at_end (op ∷ next ∷ rule) h = act_at_end (next ∷ rule) (and_parts (not (is_act op)) (acts_at_end (next ∷ rule)) h).1

pub rules_closed : (rules : List (List Opcode)) → list_all is_whole_rule rules ≡ true → list_all is_closed_rule rules ≡ true
rules_closed [] h = refl
rules_closed (rule ∷ rules) h =
    let p = and_parts (is_whole_rule rule) (list_all is_whole_rule rules) h in
    let q = and_parts (acts_at_end rule) (list_all is_whole_group (groups_of rule)) p.0 in
    let closed : is_closed_rule rule ≡ true =
    and_from (ends_with_act rule) (list_all ends_with_clear (groups_of rule)) (act_at_end rule q.0) (groups_closed (groups_of rule) q.1)
    in
    and_from (is_closed_rule rule) (list_all is_closed_rule rules) closed (rules_closed rules p.1)

-- what follows an opcode that is no action in its rule
rest_closed : (op : Opcode) (rule : List Opcode) → is_act op ≡ false → is_closed_rule (op ∷ rule) ≡ true
    → (is_closed_rule rule ≡ true) × (is_last op ≡ false → has_group (groups_of rule) ≡ true)
rest_closed op [] a h = absurd (false≢true (sym a ∙ (and_parts (is_act op) (list_all ends_with_clear (groups_of (op ∷ []))) h).0))
rest_closed op (next ∷ rule) a h =
    let p = and_parts (ends_with_act (next ∷ rule)) (list_all ends_with_clear (groups_of (op ∷ next ∷ rule))) h in
    let q = by (is_last op) refl (groups_of (next ∷ rule)) (ap (list_all ends_with_clear) (sym (groups_from op (next ∷ rule) a)) ∙ p.1) in
    (and_from (ends_with_act (next ∷ rule)) (list_all ends_with_clear (groups_of (next ∷ rule))) p.0 q.0, q.1)
  where
    by : (b : Bool) → is_last op ≡ b → (groups : List (List Opcode))
        → list_all ends_with_clear (cond b ((op ∷ []) ∷ groups) (onto_first op groups)) ≡ true
        → (list_all ends_with_clear groups ≡ true) × (b ≡ false → has_group groups ≡ true)
    by true l groups h = ((and_parts (is_last op) (list_all ends_with_clear groups) h).1, λ e. absurd (false≢true (sym e)))
    by false l [] h = absurd (false≢true (sym l ∙ (and_parts (is_last op) true h).0))
    by false l ([] ∷ groups) h = absurd (false≢true (sym l ∙ (and_parts (is_last op) (list_all ends_with_clear groups) h).0))
    by false l ((second ∷ group) ∷ groups) h =
        let p = and_parts (not (is_last op) && ends_with_clear (second ∷ group)) (list_all ends_with_clear groups) h in
        let q = and_parts (not (is_last op)) (ends_with_clear (second ∷ group)) p.0 in
        (and_from (ends_with_clear (second ∷ group)) (list_all ends_with_clear groups) q.1 p.1, λ e. refl)

-- an action begins no group
alone : (op : Opcode) (inside : Bool) → is_act op ≡ true → (inside ≡ true → has_group (groups_of (op ∷ [])) ≡ true) → not inside ≡ true
alone op false a w = refl
alone op true a w =
    let none : groups_of (op ∷ []) ≡ [] = rw a refl in
    absurd (false≢true (ap has_group (sym none) ∙ w refl))

-- if the rules are closed, no action is within a group
pub closed_by_rules : (inside : Bool) (ops : List Opcode) → list_all is_closed_rule (rules_of ops) ≡ true
    → (inside ≡ true → goes_into_group (rules_of ops) ≡ true) → closed_from inside ops ≡ true
closed_by_rules inside [] h w = refl
closed_by_rules inside (op ∷ ops) h w =
    by (is_act op) refl (rules_of ops) h w (λ k. closed_by_rules false ops k (λ e. absurd (false≢true e))) (closed_by_rules (not (is_last op)) ops)
  where
    by : (b : Bool) → is_act op ≡ b → (rules : List (List Opcode))
        → list_all is_closed_rule (cond b ((op ∷ []) ∷ rules) (onto_first op rules)) ≡ true
        → (inside ≡ true → goes_into_group (cond b ((op ∷ []) ∷ rules) (onto_first op rules)) ≡ true)
        → (list_all is_closed_rule rules ≡ true → closed_from false ops ≡ true)
        → (list_all is_closed_rule rules ≡ true → (not (is_last op) ≡ true → goes_into_group rules ≡ true) → closed_from (not (is_last op)) ops ≡ true)
        → cond b (not inside && closed_from false ops) (closed_from (not (is_last op)) ops) ≡ true
    by true a rules h w act plain =
        let p = and_parts (is_closed_rule (op ∷ [])) (list_all is_closed_rule rules) h in
        and_from (not inside) (closed_from false ops) (alone op inside a w) (act p.1)
    by false a [] h w act plain =
        let r = rest_closed op [] a (and_parts (is_closed_rule (op ∷ [])) true h).0 in
        absurd (false≢true r.0)
    by false a (rule ∷ rules) h w act plain =
        let p = and_parts (is_closed_rule (op ∷ rule)) (list_all is_closed_rule rules) h in
        let r = rest_closed op rule a p.0 in
        plain (and_from (is_closed_rule rule) (list_all is_closed_rule rules) r.0 p.1) (λ l. r.1 (not-true (is_last op) l))
