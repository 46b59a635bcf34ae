-- Code that rules become has no fault.
use Rattle.std.proofs.Math.Bool.{and-false}
use Rattle.std.specs.Bool.{beq}
use Rattle.std.specs.List.{flat_map, list_all, position, prefix_len}
use Rattle.std.specs.Option.{option_or}
use Rattle.std.specs.Prelude.{Option, None, Some, option_map, nat_le}
use Rattle.std.proofs.Common.{◌≡◌, ◌≢◌, ◌∙◌, ℕ, ◌+◌, Bool, true, false, not, cond, List, [], ◌∷◌, ◌++◌, ◌&&◌, ◌||◌, eqb, ltb, filter, length, refl, ap, subst, arith}
use Rattle.std.proofs.lemmas.Bool.{and_parts, false≢true, le-ltb, or_parts}
use Rattle.std.proofs.lemmas.List.{append_assoc}
use Rattle.std.proofs.lemmas.List.Folds.{list_all-append}
use Rattle.sb_call.specs.Tags.{TagsComeBack}
use Rattle.sb_call.specs.declared.tags.CallTag.{CallTag}
use Rattle.sb_rule.specs.WellMade.{is_well_formed, is_well_made_rule}
use Rattle.sb_rule.specs.declared.conditions.Cond.{Cond}
use Rattle.sb_rule.specs.declared.policies.Rule.{Rule}
use Rattle.sb_opcode.specs.Faults.{ends_with_act, is_text_kind, goes_on, differs, is_unfit, is_open, with_before, is_misplaced}
use Rattle.sb_opcode.specs.Groups.{is_act}
use Rattle.sb_opcode.specs.Options.{has, NEGATE, CLEAR, OR, FOLD, EXACT, has_options}
use Rattle.sb_opcode.specs.declared.faults.CodeFault.TheVariants.{NoAction, OpenGroup, BadParam}
use Rattle.sb_opcode.specs.Opcodes.{Opcode}
use Rattle.sb_compile.specs.Compiling.{closed, cond_code, rule_code, code_of, end_bits, with_options}
use Rattle.sb_rule.specs.Verdicts.{is_for}
use Rattle.sb_compile.specs.Laws.{CompiledCodeIsFaultless}
use Rattle.sb_compile.proofs.Ends.{is_plain, kept}
use Rattle.sb_compile.proofs.Members.{is_member, are_members, member, both, same}
use Rattle.sb_compile.proofs.Cuts.{act_of, is_formed, cond_group}
use Rattle.sb_compile.proofs.Verdicts.{same_tag, rules_formed, call_formed}

-- opcodes of which none leaves a group open
abbrev none_open : Option Opcode → List Opcode → Bool
none_open before ops = list_all (λ pair. not (is_open pair)) (with_before before ops)

-- what may come before an opcode of this parameter and this OR
abbrev Follows : Option Opcode → ℕ → Bool → Type 0
Follows before param choice = (op : Opcode) → op.param ≡ param → has op.options OR ≡ choice → (goes_on before && differs before op) ≡ false

follows_end : (before : Option Opcode) (param : ℕ) (choice : Bool) → goes_on before ≡ false → Follows before param choice
follows_end before param choice h op p c = ap (λ b. b && differs before op) h

chosen_same : (b : Bool) → beq b b ≡ true
chosen_same true = refl
chosen_same false = refl

follows_member : (before : Opcode) (param : ℕ) (choice : Bool) → before.param ≡ param → has before.options OR ≡ choice → Follows (Some before) param choice
follows_member before param choice p c op q d =
    (λ i. goes_on (Some before) && (not (eqb (p i) (q i)) || not (beq (c i) (d i))))
    ∙ (λ i. goes_on (Some before) && (not (same param i) || not (chosen_same choice i)))
    ∙ and-false (goes_on (Some before))

-- the last opcode of a group has options that fit, if it had such before
end_fits : (negated : Bool) (op : Opcode) → is_plain op ≡ true → is_act op ≡ false → is_unfit op ≡ false → is_unfit (with_options (end_bits negated) op) ≡ false
end_fits negated op plain no_act fit =
    let k = kept negated op.options.0 plain in
    let text = is_text_kind op.kind in
    let w = with_options (end_bits negated) op in
    let cut = has op.options NEGATE && not (has op.options CLEAR) in
    let chosen = text && has op.options OR in
    let acts = is_act op && has_options op.options in
    let others = not text && (has op.options FOLD || has op.options EXACT) in
    let p = or_parts ((cut || chosen) || acts) others fit in
    let q = or_parts (cut || chosen) acts p.0 in
    let r = or_parts cut chosen q.0 in
    let first : (has w.options NEGATE && not (has w.options CLEAR)) ≡ false = (λ i. has w.options NEGATE && not (k.clears_now i)) ∙ and-false (has w.options NEGATE) in
    let second : (text && has w.options OR) ≡ false = ap (λ b. text && b) k.choice_kept ∙ r.1 in
    let third : (is_act op && has_options w.options) ≡ false = ap (λ b. b && has_options w.options) no_act in
    let fourth : (not text && (has w.options FOLD || has w.options EXACT)) ≡ false = (λ i. not text && (k.folds_kept i || k.exact_kept i)) ∙ p.1 in
    λ i. ((first i || second i) || third i) || fourth i

not_open : (before : Option Opcode) (op : Opcode) → (goes_on before && differs before op) ≡ false → is_act op ≡ false → is_unfit op ≡ false → not (is_open (before, op)) ≡ true
not_open before op f a u = (λ i. not ((goes_on before && (a i || differs before op)) || u i)) ∙ (λ i. not (f i || false))

group_open : (negated : Bool) (tag : CallTag) (param : ℕ) (choice : Bool) (op : Opcode) (ops rest : List Opcode) (before : Option Opcode)
    → are_members tag param choice (op ∷ ops) ≡ true → Follows before param choice
    → ((last : Opcode) → goes_on (Some last) ≡ false → none_open (Some last) rest ≡ true)
    → none_open before (closed negated (op ∷ ops) ++ rest) ≡ true
group_open negated tag param choice op [] rest before h follows later =
    let m = member tag param choice op (and_parts (is_member tag param choice op) true h).0 in
    let k = kept negated op.options.0 m.plain in
    let w = with_options (end_bits negated) op in
    let ended : goes_on (Some w) ≡ false = (λ i. not (is_act w) && not (k.clears_now i)) ∙ and-false (not (is_act w)) in
    both (not_open before w (follows w m.param_is (k.choice_kept ∙ m.choice_is)) m.no_act (end_fits negated op m.plain m.no_act m.fit)) (later w ended)
group_open negated tag param choice op (next ∷ ops) rest before h follows later =
    let p = and_parts (is_member tag param choice op) (are_members tag param choice (next ∷ ops)) h in
    let m = member tag param choice op p.0 in
    both (not_open before op (follows op m.param_is m.choice_is) m.no_act m.fit)
    (group_open negated tag param choice next ops rest (Some op) p.1 (follows_member op param choice m.param_is m.choice_is) later)

conds_open : (tag : CallTag) (cs : List Cond) (rule : Rule) (rest : List Opcode) (before : Option Opcode) → list_all (is_well_formed tag) cs ≡ true → goes_on before ≡ false
    → ((last : Opcode) → goes_on (Some last) ≡ false → none_open (Some last) rest ≡ true)
    → none_open before (flat_map cond_code cs ++ act_of rule ∷ rest) ≡ true
conds_open tag [] rule rest before h ended later =
    both ((λ i. not ((ended i && true) || false))) (later (act_of rule) refl)
conds_open tag (c ∷ cs) rule rest before h ended later =
    let p = and_parts (is_well_formed tag c) (list_all (is_well_formed tag) cs) h in
    let g = cond_group tag c p.0 in
    let more = flat_map cond_code cs ++ act_of rule ∷ rest in
    ap (none_open before) (append_assoc (cond_code c) (flat_map cond_code cs) (act_of rule ∷ rest))
    ∙ ap (λ ops. none_open before (closed c.negated ops ++ more)) g.are
    ∙ group_open c.negated tag g.param g.choice g.first g.others more before g.members (follows_end before g.param g.choice ended)
    (λ last e. conds_open tag cs rule rest (Some last) p.1 e later)

rules_open : (rules : List Rule) (before : Option Opcode) → list_all is_formed rules ≡ true → goes_on before ≡ false → none_open before (flat_map rule_code rules) ≡ true
rules_open [] before h ended = refl
rules_open (rule ∷ rules) before h ended =
    let p = and_parts (is_formed rule) (list_all is_formed rules) h in
    let rest = flat_map rule_code rules in
    ap (none_open before) (append_assoc (flat_map cond_code rule.conds) (act_of rule ∷ []) rest)
    ∙ conds_open rule.tag rule.conds rule rest before p.0 ended (λ last e. rules_open rules (Some last) p.1 e)

-- opcodes that suit their parameters
abbrev all_placed : CallTag → List Opcode → Bool
all_placed tag ops = list_all (λ op. not (is_misplaced tag op)) ops

not_not : {b : Bool} → b ≡ true → not (not b) ≡ true
not_not h = ap (λ b. not (not b)) h

group_placed : (negated : Bool) (tag : CallTag) (param : ℕ) (choice : Bool) (op : Opcode) (ops : List Opcode) → are_members tag param choice (op ∷ ops) ≡ true
    → all_placed tag (closed negated (op ∷ ops)) ≡ true
group_placed negated tag param choice op [] h =
    let m = member tag param choice op (and_parts (is_member tag param choice op) true h).0 in both (not_not m.suited) refl
group_placed negated tag param choice op (next ∷ ops) h =
    let p = and_parts (is_member tag param choice op) (are_members tag param choice (next ∷ ops)) h in
    both (not_not (member tag param choice op p.0).suited) (group_placed negated tag param choice next ops p.1)

conds_placed : (tag : CallTag) (cs : List Cond) → list_all (is_well_formed tag) cs ≡ true → all_placed tag (flat_map cond_code cs) ≡ true
conds_placed tag [] h = refl
conds_placed tag (c ∷ cs) h =
    let p = and_parts (is_well_formed tag c) (list_all (is_well_formed tag) cs) h in
    let g = cond_group tag c p.0 in
    list_all-append (λ op. not (is_misplaced tag op)) (cond_code c) (flat_map cond_code cs)
    ∙ both (ap (λ ops. all_placed tag (closed c.negated ops)) g.are ∙ group_placed c.negated tag g.param g.choice g.first g.others g.members) (conds_placed tag cs p.1)

rules_placed : (tag : CallTag) (rules : List Rule) → list_all (λ rule. list_all (is_well_formed tag) rule.conds) rules ≡ true → all_placed tag (flat_map rule_code rules) ≡ true
rules_placed tag [] h = refl
rules_placed tag (rule ∷ rules) h =
    let p = and_parts (list_all (is_well_formed tag) rule.conds) (list_all (λ rule. list_all (is_well_formed tag) rule.conds) rules) h in
    list_all-append (λ op. not (is_misplaced tag op)) (rule_code rule) (flat_map rule_code rules)
    ∙ both (list_all-append (λ op. not (is_misplaced tag op)) (flat_map cond_code rule.conds) (act_of rule ∷ []) ∙ both (conds_placed tag rule.conds p.0) refl)
    (rules_placed tag rules p.1)

-- rules for the call have conditions that are well formed for it
mine_formed : TagsComeBack → (tag : CallTag) (rules : List Rule) → list_all is_formed rules ≡ true
    → list_all (λ rule. list_all (is_well_formed tag) rule.conds) (filter (is_for tag) rules) ≡ true
mine_formed tags tag [] h = refl
mine_formed tags tag (rule ∷ rules) h =
    let p = and_parts (is_formed rule) (list_all is_formed rules) h in
    by (is_for tag rule) refl p.0 (mine_formed tags tag rules p.1)
  where
    by : (mine : Bool) → is_for tag rule ≡ mine → is_formed rule ≡ true → list_all (λ rule. list_all (is_well_formed tag) rule.conds) (filter (is_for tag) rules) ≡ true
        → list_all (λ rule. list_all (is_well_formed tag) rule.conds) (cond mine (rule ∷ filter (is_for tag) rules) (filter (is_for tag) rules)) ≡ true
    by true e formed later = both (subst (λ t. list_all (is_well_formed t) rule.conds ≡ true) (same_tag tags rule.tag tag e) formed) later
    by false e formed later = later

ends_later : (xs ys : List Opcode) → ends_with_act ys ≡ true → ends_with_act (xs ++ ys) ≡ true
ends_later [] ys h = h
ends_later (x ∷ []) [] h = absurd (false≢true h)
ends_later (x ∷ []) (y ∷ ys) h = h
ends_later (x ∷ next ∷ xs) ys h = ends_later (next ∷ xs) ys h

rules_end : (rule : Rule) (rules : List Rule) → ends_with_act (flat_map rule_code (rule ∷ rules)) ≡ true
rules_end rule [] =
    ap ends_with_act (append_assoc (flat_map cond_code rule.conds) (act_of rule ∷ []) []) ∙ ends_later (flat_map cond_code rule.conds) (act_of rule ∷ []) refl
rules_end rule (next ∷ rules) = ends_later (rule_code rule) (flat_map rule_code (next ∷ rules)) (rules_end next rules)

all_before : {X : Type 0} (test : X → Bool) (xs : List X) → list_all test xs ≡ true → prefix_len test xs ≡ length xs
all_before test [] h = refl
all_before test (x ∷ xs) h =
    let p = and_parts (test x) (list_all test xs) h in
    let later = all_before test xs p.1 in
    ap (λ b. cond b (1 + prefix_len test xs) 0) p.0 ∙ omega (arith, later)

not_below : (n : ℕ) → ltb n n ≡ false
not_below n = le-ltb n n (omega arith)

none_found : {X : Type 0} (test : X → Bool) (xs : List X) → list_all (λ x. not (test x)) xs ≡ true → position test xs ≡ None
none_found test xs h =
    let e = all_before (λ x. not (test x)) xs h in
    ap (λ n. cond (ltb n (length xs)) (Some n) None) e ∙ ap (λ b. cond b (Some (length xs)) None) (not_below (length xs))

some_rules : (rules : List Rule) → flat_map rule_code rules ≢ [] → ends_with_act (flat_map rule_code rules) ≡ true
some_rules [] h = absurd (h refl)
some_rules (rule ∷ rules) h = rules_end rule rules

pub compiled_code_is_faultless : TagsComeBack → CompiledCodeIsFaultless
compiled_code_is_faultless tags policy tag w some =
    let ops = code_of policy.rules tag in
    let formed = rules_formed policy.rules (and_parts (nat_le (length policy.rules) 256) (list_all is_well_made_rule policy.rules) w).1 in
    let opened = none_found is_open (with_before None ops) (rules_open (filter (is_for tag) policy.rules) None (call_formed tag policy.rules formed) refl) in
    let placed = none_found (is_misplaced tag) ops (rules_placed tag (filter (is_for tag) policy.rules) (mine_formed tags tag policy.rules formed)) in
    λ i. cond (not (some_rules (filter (is_for tag) policy.rules) some i)) (Some NoAction)
    (option_or (option_map OpenGroup (opened i)) (option_map BadParam (placed i)))
