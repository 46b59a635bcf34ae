-- A code without a fault has whole rules.
use Rattle.std.specs.Prelude.{ℕ, Bool, true, false, not, ◌&&◌, ◌||◌, ◌==◌, nat_lt, List, [], ◌∷◌, Option, None, Some, option_map, position, is_some, filter}
use Rattle.std.specs.Bool.{beq}
use Rattle.std.specs.List.{flat_map, list_all, onto_first, position_or_len}
use Rattle.std.specs.Option.{option_or}
use Rattle.std.proofs.Common.{◌≡◌, ◌∙◌, cond, length, refl, ap, sym, arith}
use Rattle.std.proofs.lemmas.Bool.{and_parts, and_from, not_from_false, or_parts, not-true, not-false, eqb-true, false≢true}
use Rattle.std.proofs.lemmas.Bool.Decides.{nat_tests}
use Rattle.std.proofs.lemmas.Grind.{common_steps}
use Rattle.sb_call.specs.declared.tags.CallTag.{CallTag}
use Rattle.sb_opcode.specs.Faults.{fault_of, ends_with_act, is_text_kind, goes_on, differs, is_open, is_unfit, is_misplaced, with_before}
use Rattle.sb_opcode.specs.Groups.{cut_after, rules_of, groups_of, is_act, is_last}
use Rattle.sb_opcode.specs.Options.{has, NEGATE, CLEAR, OR, FOLD, EXACT, has_options}
use Rattle.sb_opcode.specs.WholeGroups.{ends_with_clear, is_alike, are_alike, is_fit, is_whole_group, acts_at_end, is_whole_rule, PartsAreTheList}
use Rattle.sb_opcode.specs.declared.faults.CodeFault.{CodeFault}
use Rattle.sb_opcode.specs.declared.faults.CodeFault.TheVariants.{NoAction, OpenGroup, BadParam}
use Rattle.sb_opcode.specs.Opcodes.{Opcode}

onto_joins : (op : Opcode) (parts : List (List Opcode)) → flat_map (λ part. part) (onto_first op parts) ≡ op ∷ flat_map (λ part. part) parts
onto_joins op [] = refl
onto_joins op (part ∷ parts) = refl

pub parts_are_the_list : PartsAreTheList
parts_are_the_list test [] = refl
parts_are_the_list test (op ∷ ops) = by (test op) (parts_are_the_list test ops)
  where
    by : (b : Bool) → flat_map (λ part. part) (cut_after test ops) ≡ ops
        → flat_map (λ part. part) (cond b ((op ∷ []) ∷ cut_after test ops) (onto_first op (cut_after test ops))) ≡ op ∷ ops
    by true e = ap (λ l. op ∷ l) e
    by false e = onto_joins op (cut_after test ops) ∙ ap (λ l. op ∷ l) e

-- if no element is found, none passes
none_found : {X : Type 0} (p : X → Bool) (xs : List X) → nat_lt (position_or_len p xs) (length xs) ≡ false → list_all (λ x. not (p x)) xs ≡ true
none_found p [] h = refl
none_found p (x ∷ xs) h = by (p x) refl (none_found p xs)
  where
    by : (b : Bool) → p x ≡ b → (nat_lt (position_or_len p xs) (length xs) ≡ false → list_all (λ y. not (p y)) xs ≡ true)
        → (not (p x) && list_all (λ y. not (p y)) xs) ≡ true
    by true e k = absurd (grind (arith, nat_tests, common_steps))
    by false e k =
        let later : nat_lt (position_or_len p xs) (length xs) ≡ false = grind (arith, nat_tests, common_steps) in
        rw (e, k later) refl

found_none : (b : Bool) (n : ℕ) → cond b (Some n) None ≡ None → b ≡ false
found_none true n e = absurd (false≢true (sym (ap is_some e)))
found_none false n e = refl

pub none_passes : {X : Type 0} (p : X → Bool) (xs : List X) → position p xs ≡ None → list_all (λ x. not (p x)) xs ≡ true
none_passes p xs e = none_found p xs (found_none (nat_lt (position_or_len p xs) (length xs)) (position_or_len p xs) e)

mapped_none : {X Y : Type 0} (f : X → Y) (o : Option X) → option_map f o ≡ None → o ≡ None
mapped_none f None e = refl
mapped_none f (Some x) e = absurd (false≢true (sym (ap is_some e)))

either_none : (a b : Option CodeFault) → option_or a b ≡ None → (a ≡ None) × (b ≡ None)
either_none None b e = (refl, e)
either_none (Some x) b e = absurd (false≢true (sym (ap is_some e)))

-- the three parts of having no fault
abbrev pub Faultless : CallTag → List Opcode → Type 0
Faultless tag ops =
    (ends_with_act ops ≡ true) × (list_all (λ pair. not (is_open pair)) (with_before None ops) ≡ true)
    × (list_all (λ op. not (is_misplaced tag op)) ops ≡ true)

pub faultless : (tag : CallTag) (ops : List Opcode) → fault_of tag ops ≡ None → Faultless tag ops
faultless tag ops e = by (ends_with_act ops) refl e
  where
    by : (b : Bool) → ends_with_act ops ≡ b
        → cond (not b) (Some NoAction) (option_or (option_map OpenGroup (position is_open (with_before None ops))) (option_map BadParam (position (is_misplaced tag) ops))) ≡ None
        → Faultless tag ops
    by false h e = absurd (false≢true (sym (ap is_some e)))
    by true h e =
        let both = either_none (option_map OpenGroup (position is_open (with_before None ops))) (option_map BadParam (position (is_misplaced tag) ops)) e in (
          h,
          none_passes is_open (with_before None ops) (mapped_none OpenGroup (position is_open (with_before None ops)) both.0),
          none_passes (is_misplaced tag) ops (mapped_none BadParam (position (is_misplaced tag) ops) both.1),
        )

pub beq_true : (a b : Bool) → beq a b ≡ true → a ≡ b
beq_true true true e = refl
beq_true true false e = absurd (false≢true e)
beq_true false true e = absurd (false≢true e)
beq_true false false e = refl

-- an opcode before another in its group
abbrev Before : Opcode → Opcode → Type 0
Before op next = (is_act op ≡ false) × (is_last op ≡ false) × (is_fit op ≡ true) × (is_alike op next ≡ true) × (is_act next ≡ false)

alike_later : (op next : Opcode) (ops : List Opcode) → is_alike op next ≡ true → list_all (is_alike next) ops ≡ true → list_all (is_alike op) ops ≡ true
alike_later op next ops h k =
    let p = and_parts (op.param == next.param) (beq (has op.options OR) (has next.options OR)) h in
    let param = eqb-true op.param next.param p.0 in
    let choice = beq_true (has op.options OR) (has next.options OR) p.1 in
    (λ i. list_all (λ other. param i == other.param && beq (choice i) (has other.options OR)) ops) ∙ k

group_grows : (op next : Opcode) (ops : List Opcode) → Before op next → is_whole_group (next ∷ ops) ≡ true → is_whole_group (op ∷ next ∷ ops) ≡ true
group_grows op next ops b h =
    let p = and_parts (ends_with_clear (next ∷ ops) && are_alike (next ∷ ops)) (list_all is_fit (next ∷ ops)) h in
    let q = and_parts (ends_with_clear (next ∷ ops)) (are_alike (next ∷ ops)) p.0 in
    let clear : (not (is_last op) && ends_with_clear (next ∷ ops)) ≡ true = and_from _ _ (not_from_false (is_last op) b.1) q.0 in
    let alike : (is_alike op next && list_all (is_alike op) ops) ≡ true = and_from _ _ b.3 (alike_later op next ops b.3 q.1) in
    and_from _ _ (and_from _ _ clear alike) (and_from (is_fit op) (list_all is_fit (next ∷ ops)) b.2 p.1)

groups_grow : (op next : Opcode) (ops : List Opcode) → Before op next → list_all is_whole_group (cut_after is_last (next ∷ ops)) ≡ true
    → list_all is_whole_group (onto_first op (cut_after is_last (next ∷ ops))) ≡ true
groups_grow op next ops b h = by (is_last next) (cut_after is_last ops) h
  where
    grown : (group : List Opcode) (groups : List (List Opcode)) → list_all is_whole_group ((next ∷ group) ∷ groups) ≡ true
        → list_all is_whole_group ((op ∷ next ∷ group) ∷ groups) ≡ true
    grown group groups h =
        let p = and_parts (is_whole_group (next ∷ group)) (list_all is_whole_group groups) h in
        and_from (is_whole_group (op ∷ next ∷ group)) (list_all is_whole_group groups) (group_grows op next group b p.0) p.1

    by : (s : Bool) (groups : List (List Opcode)) → list_all is_whole_group (cond s ((next ∷ []) ∷ groups) (onto_first next groups)) ≡ true
        → list_all is_whole_group (onto_first op (cond s ((next ∷ []) ∷ groups) (onto_first next groups))) ≡ true
    by true groups h = grown [] groups h
    by false [] h = grown [] [] h
    by false (group ∷ groups) h = grown group groups h

-- the groups of a rule that begins with an opcode that is no action
pub groups_from : (op : Opcode) (ops : List Opcode) → is_act op ≡ false → groups_of (op ∷ ops) ≡ cut_after is_last (op ∷ filter (λ other. not (is_act other)) ops)
groups_from op ops h = rw h refl

rule_grows : (op next : Opcode) (ops : List Opcode) → Before op next → is_whole_rule (next ∷ ops) ≡ true → is_whole_rule (op ∷ next ∷ ops) ≡ true
rule_grows op next ops b h =
    let rest = filter (λ other. not (is_act other)) ops in
    let p = and_parts (acts_at_end (next ∷ ops)) (list_all is_whole_group (groups_of (next ∷ ops))) h in
    let before : list_all is_whole_group (cut_after is_last (next ∷ rest)) ≡ true = ap (list_all is_whole_group) (sym (groups_from next ops b.4)) ∙ p.1 in
    let same : groups_of (op ∷ next ∷ ops) ≡ onto_first op (cut_after is_last (next ∷ rest)) = rw (b.0, b.4, b.1) refl in
    and_from (acts_at_end (op ∷ next ∷ ops)) (list_all is_whole_group (groups_of (op ∷ next ∷ ops)))
    (and_from (not (is_act op)) (acts_at_end (next ∷ ops)) (not_from_false (is_act op) b.0) p.0)
    (ap (list_all is_whole_group) same ∙ groups_grow op next rest b before)

rules_grow : (op next : Opcode) (rules : List (List Opcode)) → Before op next → list_all is_whole_rule (onto_first next rules) ≡ true
    → list_all is_whole_rule (onto_first op (onto_first next rules)) ≡ true
rules_grow op next [] b h =
    let p = and_parts (is_whole_rule (next ∷ [])) true h in
    and_from (is_whole_rule (op ∷ next ∷ [])) true (rule_grows op next [] b p.0) refl
rules_grow op next (rule ∷ rules) b h =
    let p = and_parts (is_whole_rule (next ∷ rule)) (list_all is_whole_rule rules) h in
    and_from (is_whole_rule (op ∷ next ∷ rule)) (list_all is_whole_rule rules) (rule_grows op next rule b p.0) p.1

-- a group of one opcode before whole rules
rules_begin : (op next : Opcode) (ops : List Opcode) → is_act op ≡ false → is_last op ≡ true → is_fit op ≡ true
    → list_all is_whole_rule (rules_of (next ∷ ops)) ≡ true → list_all is_whole_rule (onto_first op (rules_of (next ∷ ops))) ≡ true
rules_begin op next ops a l f h = by (is_act next) (rules_of ops) h
  where
    begun : (rule : List Opcode) (rules : List (List Opcode)) → list_all is_whole_rule ((next ∷ rule) ∷ rules) ≡ true
        → list_all is_whole_rule ((op ∷ next ∷ rule) ∷ rules) ≡ true
    begun rule rules h =
        let p = and_parts (is_whole_rule (next ∷ rule)) (list_all is_whole_rule rules) h in
        let q = and_parts (acts_at_end (next ∷ rule)) (list_all is_whole_group (groups_of (next ∷ rule))) p.0 in
        let same : groups_of (op ∷ next ∷ rule) ≡ (op ∷ []) ∷ groups_of (next ∷ rule) = rw (a, l) refl in
        let single : is_whole_group (op ∷ []) ≡ true = and_from _ _ (and_from (is_last op) true l refl) (and_from (is_fit op) true f refl) in
        let whole : is_whole_rule (op ∷ next ∷ rule) ≡ true =
        and_from (acts_at_end (op ∷ next ∷ rule)) (list_all is_whole_group (groups_of (op ∷ next ∷ rule)))
        (and_from (not (is_act op)) (acts_at_end (next ∷ rule)) (not_from_false (is_act op) a) q.0)
        (ap (list_all is_whole_group) same ∙ and_from (is_whole_group (op ∷ [])) (list_all is_whole_group (groups_of (next ∷ rule))) single q.1)
        in
        and_from (is_whole_rule (op ∷ next ∷ rule)) (list_all is_whole_rule rules) whole p.1

    by : (s : Bool) (rules : List (List Opcode)) → list_all is_whole_rule (cond s ((next ∷ []) ∷ rules) (onto_first next rules)) ≡ true
        → list_all is_whole_rule (onto_first op (cond s ((next ∷ []) ∷ rules) (onto_first next rules))) ≡ true
    by true rules h = begun [] rules h
    by false [] h = begun [] [] h
    by false (rule ∷ rules) h = begun rule rules h

-- what not being open says of an opcode and of the one before it
not_open : (before : Option Opcode) (op : Opcode) → not (is_open (before, op)) ≡ true
    → ((goes_on before && (is_act op || differs before op)) ≡ false) × (is_fit op ≡ true)
not_open before op h =
    let p = or_parts (goes_on before && (is_act op || differs before op)) (is_unfit op) (not-true (is_open (before, op)) h) in
    (p.0, not_from_false (is_unfit op) p.1)

-- an opcode that goes on in the next one
goes_before : (op next : Opcode) → is_act op ≡ false → is_last op ≡ false → is_fit op ≡ true → not (is_open (Some op, next)) ≡ true → Before op next
goes_before op next a l f h =
    let p = not_open (Some op) next h in
    let on : goes_on (Some op) ≡ true = rw (a, l) refl in
    let q : (is_act next || differs (Some op) next) ≡ false = ap (λ b. b && (is_act next || differs (Some op) next)) (sym on) ∙ p.0 in
    let r = or_parts (is_act next) (differs (Some op) next) q in
    let s = or_parts (not (op.param == next.param)) (not (beq (has op.options OR) (has next.options OR))) r.1 in
    let param : (op.param == next.param) ≡ true = not-false (op.param == next.param) s.0 in
    let choice : beq (has op.options OR) (has next.options OR) ≡ true = not-false (beq (has op.options OR) (has next.options OR)) s.1 in
    (a, l, f, and_from (op.param == next.param) (beq (has op.options OR) (has next.options OR)) param choice, r.0)

-- an action with options that fit has none
plain_act : (op : Opcode) → is_act op ≡ true → is_fit op ≡ true → (is_act op && not (has_options op.options)) ≡ true
plain_act op a f =
    and_from (is_act op) (not (has_options op.options)) a
    (by (has op.options NEGATE && not (has op.options CLEAR)) (is_text_kind op.kind && has op.options OR) (is_act op) (has_options op.options)
    (not (is_text_kind op.kind) && (has op.options FOLD || has op.options EXACT)) a f)
  where
    by : (n t act options d : Bool) → act ≡ true → not (n || t || (act && options) || d) ≡ true → not options ≡ true
    by n t act false d a f = refl
    by n t false true d a f = absurd (false≢true a)
    by true t true true d a f = absurd (false≢true f)
    by false true true true d a f = absurd (false≢true f)
    by false false true true d a f = absurd (false≢true f)

act_alone : (op : Opcode) → is_act op ≡ true → is_fit op ≡ true → is_whole_rule (op ∷ []) ≡ true
act_alone op a f =
    let none : groups_of (op ∷ []) ≡ [] = rw a refl in
    and_from (acts_at_end (op ∷ [])) (list_all is_whole_group (groups_of (op ∷ []))) (plain_act op a f) (ap (list_all is_whole_group) none)

whole_from : (before : Option Opcode) (ops : List Opcode) → ends_with_act ops ≡ true
    → list_all (λ pair. not (is_open pair)) (with_before before ops) ≡ true → list_all is_whole_rule (rules_of ops) ≡ true
whole_from before [] e h = absurd (false≢true e)
whole_from before (op ∷ []) e h =
    let act : is_act op ≡ true = e in
    let p = and_parts (not (is_open (before, op))) true h in
    let one : is_whole_rule (op ∷ []) ≡ true = act_alone op act (not_open before op p.0).1 in
    rw act (and_from (is_whole_rule (op ∷ [])) true one refl)
whole_from before (op ∷ next ∷ ops) e h =
    let p = and_parts (not (is_open (before, op))) (list_all (λ pair. not (is_open pair)) (with_before (Some op) (next ∷ ops))) h in
    let q = and_parts (not (is_open (Some op, next))) (list_all (λ pair. not (is_open pair)) (with_before (Some next) ops)) p.1 in
    by (is_act op) (is_last op) refl refl (not_open before op p.0).1 q.0 (whole_from (Some op) (next ∷ ops) e p.1)
  where
    by : (a l : Bool) → is_act op ≡ a → is_last op ≡ l → is_fit op ≡ true → not (is_open (Some op, next)) ≡ true
        → list_all is_whole_rule (rules_of (next ∷ ops)) ≡ true
        → list_all is_whole_rule (cond a ((op ∷ []) ∷ rules_of (next ∷ ops)) (onto_first op (rules_of (next ∷ ops)))) ≡ true
    by true l ha hl f o h = and_from (is_whole_rule (op ∷ [])) (list_all is_whole_rule (rules_of (next ∷ ops))) (act_alone op ha f) h
    by false true ha hl f o h = rules_begin op next ops ha hl f h
    by false false ha hl f o h =
        let b = goes_before op next ha hl f o in
        let shape : rules_of (next ∷ ops) ≡ onto_first next (rules_of ops) = rw b.4 refl in
        ap (λ rules. list_all is_whole_rule (onto_first op rules)) shape
        ∙ rules_grow op next (rules_of ops) b (ap (list_all is_whole_rule) (sym shape) ∙ h)

pub faultless_rules_are_whole : (tag : CallTag) (ops : List Opcode) → fault_of tag ops ≡ None → list_all is_whole_rule (rules_of ops) ≡ true
faultless_rules_are_whole tag ops e =
    let f = faultless tag ops e in
    whole_from None ops f.0 f.1
