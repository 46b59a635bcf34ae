-- A code of whole rules whose opcodes suit their parameters has no fault.
use Rattle.std.specs.Prelude.{ℕ, ◌+◌, Bool, true, false, not, ◌&&◌, ◌||◌, ◌==◌, List, [], ◌∷◌, length, Option, None, Some, option_map, position, filter, bit_and}
use Rattle.std.specs.Bool.{beq}
use Rattle.std.specs.List.{list_all, onto_first, prefix_len}
use Rattle.std.specs.Option.{option_or}
use Rattle.std.proofs.Common.{◌≡◌, ◌∙◌, cond, ltb, refl, ap, sym, arith}
use Rattle.std.proofs.lemmas.Bool.{and_parts, and_from, eqb-true, false≢true, le-ltb}
use Rattle.std.proofs.lemmas.Nat.{and_assoc}
use Rattle.sb_call.specs.declared.tags.CallTag.{CallTag}
use Rattle.sb_opcode.specs.Faults.{fault_of, ends_with_act, differs, is_open, is_unfit, is_text_kind, is_misplaced, with_before}
use Rattle.sb_opcode.specs.Groups.{cut_after, rules_of, groups_of, is_act, is_act_kind, is_last}
use Rattle.sb_opcode.specs.Options.{has, NEGATE, CLEAR, OR, FOLD, EXACT, has_options}
use Rattle.sb_opcode.specs.WholeGroups.{ends_with_clear, is_alike, are_alike, is_fit, is_whole_group, acts_at_end, is_whole_rule, FaultlessCodesAreWhole}
use Rattle.sb_opcode.specs.declared.faults.CodeFault.TheVariants.{NoAction, OpenGroup, BadParam}
use Rattle.sb_opcode.specs.Opcodes.{Opcode}
use Rattle.sb_opcode.specs.Opcodes.{OpKind}
use Rattle.sb_opcode.specs.Opcodes.{False, True, Num, Range, Mask, Text, Act}
use Rattle.sb_opcode.proofs.GroupLemmas.{faultless, faultless_rules_are_whole, groups_from, beq_true}

-- opcodes of which none leaves a group open
abbrev none_open : Option Opcode → List Opcode → Bool
none_open before ops = list_all (λ pair. not (is_open pair)) (with_before before ops)

abbrev are_whole : List (List Opcode) → Bool
are_whole rules = list_all is_whole_rule rules

abbrev is_false : {b : Bool} → not b ≡ true → b ≡ false
is_false {b = true} h = absurd (false≢true h)
is_false {b = false} h = refl

-- an opcode without options has none of them
no_bits : (bits option : ℕ) → bit_and 31 option ≡ option → (bit_and bits 31 == 0) ≡ true → bit_and bits option ≡ 0
no_bits bits option e h =
    ap (bit_and bits) (sym e) ∙ sym (and_assoc option bits 31)
    ∙ ap (λ n. bit_and n option) (eqb-true (bit_and bits 31) 0 h)

-- the group of an opcode that is not its last goes on with the next one
abbrev Next : Opcode → Opcode → List Opcode → Type 0
Next op next rule = (is_act next ≡ false) × (is_alike op next ≡ true) × (is_fit op ≡ true) × (is_whole_rule (next ∷ rule) ≡ true)

alike_later : (op next : Opcode) (ops : List Opcode) → is_alike op next ≡ true → list_all (is_alike op) ops ≡ true → list_all (is_alike next) ops ≡ true
alike_later op next ops h k =
    let p = and_parts (op.param == next.param) (beq (has op.options OR) (has next.options OR)) h in
    let param = sym (eqb-true op.param next.param p.0) in
    let choice = sym (beq_true (has op.options OR) (has next.options OR) p.1) in
    (λ i. list_all (λ other. param i == other.param && beq (choice i) (has other.options OR)) ops) ∙ k

-- what a whole group is without its first opcode
group_shrinks : (op next : Opcode) (ops : List Opcode) → is_whole_group (op ∷ next ∷ ops) ≡ true
    → (is_alike op next ≡ true) × (is_fit op ≡ true) × (is_whole_group (next ∷ ops) ≡ true)
group_shrinks op next ops h =
    let p = and_parts (ends_with_clear (op ∷ next ∷ ops) && are_alike (op ∷ next ∷ ops)) (list_all is_fit (op ∷ next ∷ ops)) h in
    let q = and_parts (ends_with_clear (op ∷ next ∷ ops)) (are_alike (op ∷ next ∷ ops)) p.0 in
    let clear = and_parts (not (is_last op)) (ends_with_clear (next ∷ ops)) q.0 in
    let alike = and_parts (is_alike op next) (list_all (is_alike op) ops) q.1 in
    let fit = and_parts (is_fit op) (list_all is_fit (next ∷ ops)) p.1 in (
      alike.0,
      fit.0,
      and_from (ends_with_clear (next ∷ ops) && are_alike (next ∷ ops)) (list_all is_fit (next ∷ ops))
          (and_from (ends_with_clear (next ∷ ops)) (are_alike (next ∷ ops)) clear.1 (alike_later op next ops alike.0 alike.1)) fit.1,
    )

groups_shrink : (op next : Opcode) (rest : List Opcode) → list_all is_whole_group (onto_first op (cut_after is_last (next ∷ rest))) ≡ true
    → (is_alike op next ≡ true) × (is_fit op ≡ true) × (list_all is_whole_group (cut_after is_last (next ∷ rest)) ≡ true)
groups_shrink op next rest h = by (is_last next) (cut_after is_last rest) h
  where
    shrunk : (group : List Opcode) (groups : List (List Opcode)) → list_all is_whole_group ((op ∷ next ∷ group) ∷ groups) ≡ true
        → (is_alike op next ≡ true) × (is_fit op ≡ true) × (list_all is_whole_group ((next ∷ group) ∷ groups) ≡ true)
    shrunk group groups h =
        let p = and_parts (is_whole_group (op ∷ next ∷ group)) (list_all is_whole_group groups) h in
        let q = group_shrinks op next group p.0 in
        (q.0, q.1, and_from (is_whole_group (next ∷ group)) (list_all is_whole_group groups) q.2 p.1)

    by : (s : Bool) (groups : List (List Opcode)) → list_all is_whole_group (onto_first op (cond s ((next ∷ []) ∷ groups) (onto_first next groups))) ≡ true
        → (is_alike op next ≡ true) × (is_fit op ≡ true) × (list_all is_whole_group (cond s ((next ∷ []) ∷ groups) (onto_first next groups)) ≡ true)
    by true groups h = shrunk [] groups h
    by false [] h = shrunk [] [] h
    by false (group ∷ groups) h = shrunk group groups h

-- an action ends no group that is open
act_cannot : (op next : Opcode) (rule : List Opcode) → is_act op ≡ false → is_last op ≡ false → is_act next ≡ true → is_whole_rule (op ∷ next ∷ rule) ≡ true → false ≡ true
act_cannot op next [] a l n h =
    let p = and_parts (acts_at_end (op ∷ next ∷ [])) (list_all is_whole_group (groups_of (op ∷ next ∷ []))) h in
    let groups : groups_of (op ∷ next ∷ []) ≡ (op ∷ []) ∷ [] = rw (a, n, l) refl in
    let whole : is_whole_group (op ∷ []) ≡ true = (and_parts (is_whole_group (op ∷ [])) true (ap (list_all is_whole_group) (sym groups) ∙ p.1)).0 in
    let q = and_parts (is_last op && true) (list_all is_fit (op ∷ [])) whole in
    sym l ∙ (and_parts (is_last op) true q.0).0
act_cannot op next (third ∷ rule) a l n h =
    let p = and_parts (acts_at_end (op ∷ next ∷ third ∷ rule)) (list_all is_whole_group (groups_of (op ∷ next ∷ third ∷ rule))) h in
    let q = and_parts (not (is_act op)) (acts_at_end (next ∷ third ∷ rule)) p.0 in
    let r = and_parts (not (is_act next)) (acts_at_end (third ∷ rule)) q.1 in
    sym (is_false r.0) ∙ n

goes_next : (op next : Opcode) (rule : List Opcode) → is_act op ≡ false → is_last op ≡ false → is_whole_rule (op ∷ next ∷ rule) ≡ true → Next op next rule
goes_next op next rule a l h = by (is_act next) refl
  where
    by : (n : Bool) → is_act next ≡ n → Next op next rule
    by true n = absurd (false≢true (act_cannot op next rule a l n h))
    by false n =
        let p = and_parts (acts_at_end (op ∷ next ∷ rule)) (list_all is_whole_group (groups_of (op ∷ next ∷ rule))) h in
        let q = and_parts (not (is_act op)) (acts_at_end (next ∷ rule)) p.0 in
        let both : groups_of (op ∷ next ∷ rule) ≡ onto_first op (cut_after is_last (next ∷ filter (λ other. not (is_act other)) rule)) = rw (a, n, l) refl in
        let one : groups_of (next ∷ rule) ≡ cut_after is_last (next ∷ filter (λ other. not (is_act other)) rule) = groups_from next rule n in
        let g = groups_shrink op next (filter (λ other. not (is_act other)) rule) (ap (list_all is_whole_group) (sym both) ∙ p.1) in
        (n, g.0, g.1, and_from (acts_at_end (next ∷ rule)) (list_all is_whole_group (groups_of (next ∷ rule))) q.1 (ap (list_all is_whole_group) one ∙ g.2))

-- a rule after an opcode that ends its group
after_group : (op : Opcode) (rule : List Opcode) → is_act op ≡ false → is_last op ≡ true → is_whole_rule (op ∷ rule) ≡ true
    → (is_fit op ≡ true) × (is_whole_rule rule ≡ true)
after_group op [] a l h =
    let p = and_parts (acts_at_end (op ∷ [])) (list_all is_whole_group (groups_of (op ∷ []))) h in
    absurd (false≢true (sym a ∙ (and_parts (is_act op) (not (has_options op.options)) p.0).0))
after_group op (next ∷ rule) a l h =
    let p = and_parts (acts_at_end (op ∷ next ∷ rule)) (list_all is_whole_group (groups_of (op ∷ next ∷ rule))) h in
    let q = and_parts (not (is_act op)) (acts_at_end (next ∷ rule)) p.0 in
    let groups : groups_of (op ∷ next ∷ rule) ≡ (op ∷ []) ∷ groups_of (next ∷ rule) = rw (a, l) refl in
    let g = and_parts (is_whole_group (op ∷ [])) (list_all is_whole_group (groups_of (next ∷ rule))) (ap (list_all is_whole_group) (sym groups) ∙ p.1) in
    let w = and_parts (is_last op && true) (list_all is_fit (op ∷ [])) g.0 in (
      (and_parts (is_fit op) true w.1).0,
      and_from (acts_at_end (next ∷ rule)) (list_all is_whole_group (groups_of (next ∷ rule))) q.1 g.1,
    )

-- an action without options fits
act_fits : (op : Opcode) → is_act op ≡ true → not (has_options op.options) ≡ true → is_fit op ≡ true
act_fits op a h = by op.kind a
  where
    none : (option : ℕ) → bit_and 31 option ≡ option → bit_and op.options.0 option ≡ 0
    none option e = no_bits op.options.0 option e (by_not (bit_and op.options.0 31 == 0) h)
      where
        by_not : (b : Bool) → not (not b) ≡ true → b ≡ true
        by_not true k = refl
        by_not false k = absurd (false≢true k)

    negate : has op.options NEGATE ≡ false
    negate = ap (λ n. n == 1) (none 1 refl)

    folds : has op.options FOLD ≡ false
    folds = ap (λ n. n == 8) (none 8 refl)

    exact : has op.options EXACT ≡ false
    exact = ap (λ n. n == 16) (none 16 refl)

    by : (kind : OpKind) → is_act_kind kind ≡ true
        → not ((has op.options NEGATE && not (has op.options CLEAR)) || (is_text_kind kind && has op.options OR) || (is_act_kind kind && has_options op.options)
        || (not (is_text_kind kind) && (has op.options FOLD || has op.options EXACT))) ≡ true
    by False k = absurd (false≢true k)
    by True k = absurd (false≢true k)
    by (Num n) k = absurd (false≢true k)
    by (Range lo hi) k = absurd (false≢true k)
    by (Mask m) k = absurd (false≢true k)
    by (Text cells seek) k = absurd (false≢true k)
    by (Act action line) k =
        λ i. not ((negate i && not (has op.options CLEAR)) || false || is_false h i || (folds i || exact i))

-- what comes before rules is whole with them
abbrev whole_after : Option Opcode → List (List Opcode) → Bool
whole_after None rules = are_whole rules
whole_after (Some op) rules = cond (is_act op || is_last op) (are_whole rules) (are_whole (onto_first op rules))

-- an opcode before whole rules fits, and so does what follows it
first_fits : (op : Opcode) (ops : List Opcode) → are_whole (rules_of (op ∷ ops)) ≡ true → (is_fit op ≡ true) × (whole_after (Some op) (rules_of ops) ≡ true)
first_fits op ops h = by (is_act op) (is_last op) refl refl (rules_of ops) h
  where
    by : (a l : Bool) → is_act op ≡ a → is_last op ≡ l → (rules : List (List Opcode))
        → are_whole (cond a ((op ∷ []) ∷ rules) (onto_first op rules)) ≡ true
        → (is_fit op ≡ true) × (cond (a || l) (are_whole rules) (are_whole (onto_first op rules)) ≡ true)
    by true l ha hl rules h =
        let p = and_parts (is_whole_rule (op ∷ [])) (are_whole rules) h in
        let q = and_parts (acts_at_end (op ∷ [])) (list_all is_whole_group (groups_of (op ∷ []))) p.0 in
        (act_fits op ha (and_parts (is_act op) (not (has_options op.options)) q.0).1, p.1)
    by false l ha hl [] h =
        let p = and_parts (is_whole_rule (op ∷ [])) true h in
        let q = and_parts (acts_at_end (op ∷ [])) (list_all is_whole_group (groups_of (op ∷ []))) p.0 in
        absurd (false≢true (sym ha ∙ (and_parts (is_act op) (not (has_options op.options)) q.0).0))
    by false true ha hl (rule ∷ rules) h =
        let p = and_parts (is_whole_rule (op ∷ rule)) (are_whole rules) h in
        let q = after_group op rule ha hl p.0 in
        (q.0, and_from (is_whole_rule rule) (are_whole rules) q.1 p.1)
    by false false ha hl ([] ∷ rules) h =
        let p = and_parts (is_whole_rule (op ∷ [])) (are_whole rules) h in
        let q = and_parts (acts_at_end (op ∷ [])) (list_all is_whole_group (groups_of (op ∷ []))) p.0 in
        absurd (false≢true (sym ha ∙ (and_parts (is_act op) (not (has_options op.options)) q.0).0))
    by false false ha hl ((next ∷ rule) ∷ rules) h =
        let p = and_parts (is_whole_rule (op ∷ next ∷ rule)) (are_whole rules) h in
        ((goes_next op next rule ha hl p.0).2, h)

-- within a group, the next opcode is no action and is like the one before it
second_alike : (op next : Opcode) (ops : List Opcode) → is_act op ≡ false → is_last op ≡ false → are_whole (onto_first op (rules_of (next ∷ ops))) ≡ true
    → (is_act next ≡ false) × (is_alike op next ≡ true) × (are_whole (rules_of (next ∷ ops)) ≡ true)
second_alike op next ops a l h = by (is_act next) refl (rules_of ops) h
  where
    alone : (rule : List Opcode) (rules : List (List Opcode)) → are_whole ((op ∷ next ∷ rule) ∷ rules) ≡ true
        → (is_act next ≡ false) × (is_alike op next ≡ true) × (are_whole ((next ∷ rule) ∷ rules) ≡ true)
    alone rule rules h =
        let p = and_parts (is_whole_rule (op ∷ next ∷ rule)) (are_whole rules) h in
        let g = goes_next op next rule a l p.0 in
        (g.0, g.1, and_from (is_whole_rule (next ∷ rule)) (are_whole rules) g.3 p.1)

    by : (n : Bool) → is_act next ≡ n → (rules : List (List Opcode)) → are_whole (onto_first op (cond n ((next ∷ []) ∷ rules) (onto_first next rules))) ≡ true
        → (is_act next ≡ false) × (is_alike op next ≡ true) × (are_whole (cond n ((next ∷ []) ∷ rules) (onto_first next rules)) ≡ true)
    by true n rules h = alone [] rules h
    by false n [] h = alone [] [] h
    by false n (rule ∷ rules) h = alone rule rules h

alike_same : (op next : Opcode) → is_alike op next ≡ true → differs (Some op) next ≡ false
alike_same op next h =
    let p = and_parts (op.param == next.param) (beq (has op.options OR) (has next.options OR)) h in
    λ i. not (p.0 i) || not (p.1 i)

-- an opcode leaves no group open, and what follows it is whole
step : (before : Option Opcode) (op : Opcode) (ops : List Opcode) → whole_after before (rules_of (op ∷ ops)) ≡ true
    → (not (is_open (before, op)) ≡ true) × (whole_after (Some op) (rules_of ops) ≡ true)
step None op ops h =
    let f = first_fits op ops h in
    (f.0, f.1)
step (Some last) op ops h = by (is_act last) (is_last last) refl refl h
  where
    by : (a l : Bool) → is_act last ≡ a → is_last last ≡ l → cond (a || l) (are_whole (rules_of (op ∷ ops))) (are_whole (onto_first last (rules_of (op ∷ ops)))) ≡ true
        → (not (((not a && not l) && (is_act op || differs (Some last) op)) || is_unfit op) ≡ true) × (whole_after (Some op) (rules_of ops) ≡ true)
    by true l ha hl h = first_fits op ops h
    by false true ha hl h = first_fits op ops h
    by false false ha hl h =
        let s = second_alike last op ops ha hl h in
        let f = first_fits op ops s.2 in
        ((λ i. not ((s.0 i || alike_same last op s.1 i) || is_false f.0 i)), f.1)

closed_all : (before : Option Opcode) (ops : List Opcode) → whole_after before (rules_of ops) ≡ true → none_open before ops ≡ true
closed_all before [] h = refl
closed_all before (op ∷ ops) h =
    let s = step before op ops h in
    and_from (not (is_open (before, op))) (none_open (Some op) ops) s.0 (closed_all (Some op) ops s.1)

-- if no element passes, none is found
all_before : {X : Type 0} (test : X → Bool) (xs : List X) → list_all test xs ≡ true → prefix_len test xs ≡ length xs
all_before test [] h = refl
all_before test (x ∷ xs) h =
    let p = and_parts (test x) (list_all test xs) h in
    let later = all_before test xs p.1 in
    ap (λ b. cond b (1 + prefix_len test xs) 0) p.0 ∙ omega (arith, later)

not_below : (n : ℕ) → ltb n n ≡ false
not_below n = le-ltb n n (omega arith)

none_found : {X : Type 0} (test : X → Bool) (xs : List X) → list_all (λ x. not (test x)) xs ≡ true → position test xs ≡ None
none_found test xs h =
    let e = all_before (λ x. not (test x)) xs h in
    ap (λ n. cond (ltb n (length xs)) (Some n) None) e ∙ ap (λ b. cond b (Some (length xs)) None) (not_below (length xs))

whole_faultless : (tag : CallTag) (ops : List Opcode) → ends_with_act ops ≡ true → are_whole (rules_of ops) ≡ true
    → list_all (λ op. not (is_misplaced tag op)) ops ≡ true → fault_of tag ops ≡ None
whole_faultless tag ops e w s =
    let opened = none_found is_open (with_before None ops) (closed_all None ops w) in
    let placed = none_found (is_misplaced tag) ops s in
    λ i. cond (not (e i)) (Some NoAction) (option_or (option_map OpenGroup (opened i)) (option_map BadParam (placed i)))

pub faultless_codes_are_whole : FaultlessCodesAreWhole
faultless_codes_are_whole tag ops = (
  (λ e. let f = faultless tag ops e in (f.0, faultless_rules_are_whole tag ops e, f.2)),
  (λ w. whole_faultless tag ops w.0 w.1 w.2),
)
