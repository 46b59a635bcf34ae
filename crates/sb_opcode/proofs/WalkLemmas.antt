-- The walk over the opcodes of a code gives what the code means.
use Rattle.std.specs.Prelude.{Bool, true, false, not, ◌&&◌, ◌||◌, List, [], ◌∷◌, Option, None, Some, option_and_then, is_some, if◌then◌else◌}
use Rattle.std.specs.List.{list_all, onto_first}
use Rattle.std.proofs.Common.{◌≡◌, ◌∙◌, cond, refl, ap, sym}
use Rattle.std.proofs.lemmas.Bool.{and_parts, false≢true}
use Rattle.sb_call.specs.Arguments.{arg_at}
use Rattle.sb_call.specs.declared.arguments.Arg.{Arg}
use Rattle.sb_call.specs.declared.tags.CallTag.{CallTag}
use Rattle.sb_opcode.specs.Faults.{fault_of}
use Rattle.sb_opcode.specs.WholeGroups.{FaultlessCodesAreWhole}
use Rattle.sb_opcode.specs.Groups.{rules_of, groups_of, is_act, is_last, is_act_kind, after_action}
use Rattle.sb_opcode.specs.Options.{has, NEGATE, OR}
use Rattle.sb_opcode.specs.Opcodes.{Opcode}
use Rattle.sb_opcode.specs.Opcodes.{OpKind}
use Rattle.sb_opcode.specs.Opcodes.{False, True, Num, Range, Mask, Text, Act}
use Rattle.sb_opcode.proofs.Closed.{closed_from, has_group, goes_into_group, groups_from, rules_closed, closed_by_rules}
use Rattle.sb_opcode.specs.Meaning.{after_opcode, after_all, all_hold, one_holds, is_negated, negate_if, group_holds, action_of_rule, judged_by, meaning}
use Rattle.sb_opcode.specs.Walking.{Standing, Between, All, One, Decided, Failed, group_start, entered, all_so_far, one_so_far, looked_at, group_end, closed, step, walk}
use Rattle.sb_rule.specs.declared.verdicts.Verdict.{Verdict}
use Rattle.sb_rule.specs.declared.verdicts.Verdict.TheVariants.{Rule, NoRule}

-- what is left of the present rule holds: the groups begin with what is left of the present group
abbrev pub rest_holds : List Arg → Standing → List (List Opcode) → Bool
rest_holds args Between groups = list_all (group_holds args) groups
rest_holds args (All left) [] = false
rest_holds args (All left) (group ∷ groups) = negate_if (is_negated group) (all_hold group left) && list_all (group_holds args) groups
rest_holds args (One whole) [] = false
rest_holds args (One whole) (group ∷ groups) = negate_if (is_negated group) (one_holds group whole) && list_all (group_holds args) groups
rest_holds args (Decided holds) [] = false
rest_holds args (Decided holds) (group ∷ groups) = negate_if (is_negated group) holds && list_all (group_holds args) groups
rest_holds args Failed groups = false

-- what the rest of a code gives: the rules begin with what is left of the present rule
abbrev pub rest_means : List Arg → Standing → List (List Opcode) → Verdict
rest_means args s [] = NoRule
rest_means args s (rule ∷ rules) =
    if rest_holds args s (groups_of rule) then action_of_rule rule else judged_by args rules

-- a group has begun, and has not ended
abbrev pub is_within : Standing → Bool
is_within Between = false
is_within (All left) = true
is_within (One whole) = true
is_within (Decided holds) = true
is_within Failed = false

-- a group that begins is the rest of that group
begins : (args : List Arg) (arg : Arg) (op : Opcode) (ops : List Opcode) (groups : List (List Opcode)) (b : Bool)
    → rest_holds args (cond b (One arg) (All arg)) ((op ∷ ops) ∷ groups)
    ≡ (negate_if (is_negated (op ∷ ops)) (cond b (one_holds (op ∷ ops) arg) (all_hold (op ∷ ops) arg)) && list_all (group_holds args) groups)
begins args arg op ops groups true = refl
begins args arg op ops groups false = refl

enters : (args : List Arg) (op : Opcode) (ops : List Opcode) (groups : List (List Opcode))
    → rest_holds args (group_start args op) ((op ∷ ops) ∷ groups) ≡ rest_holds args Between ((op ∷ ops) ∷ groups)
enters args op ops groups = begins args (arg_at args op.param) op ops groups (has op.options OR)

entered_holds : (args : List Arg) (s : Standing) (op : Opcode) (ops : List Opcode) (groups : List (List Opcode))
    → rest_holds args (entered args s op) ((op ∷ ops) ∷ groups) ≡ rest_holds args s ((op ∷ ops) ∷ groups)
entered_holds args Between op ops groups = enters args op ops groups
entered_holds args (All left) op ops groups = refl
entered_holds args (One whole) op ops groups = refl
entered_holds args (Decided holds) op ops groups = refl
entered_holds args Failed op ops groups = refl

-- an opcode is entered within a group, or in a rule that does not hold
abbrev is_inside : Standing → Bool
is_inside Between = false
is_inside (All left) = true
is_inside (One whole) = true
is_inside (Decided holds) = true
is_inside Failed = true

begun_inside : (arg : Arg) (b : Bool) → is_inside (cond b (One arg) (All arg)) ≡ true
begun_inside arg true = refl
begun_inside arg false = refl

entered_inside : (args : List Arg) (s : Standing) (op : Opcode) → is_inside (entered args s op) ≡ true
entered_inside args Between op = begun_inside (arg_at args op.param) (has op.options OR)
entered_inside args (All left) op = refl
entered_inside args (One whole) op = refl
entered_inside args (Decided holds) op = refl
entered_inside args Failed op = refl

-- within a group, what is left of it after an opcode that is not its last
all_goes_on : (args : List Arg) (next : Opcode) (ops : List Opcode) (groups : List (List Opcode)) (o : Option Arg)
    → rest_holds args (all_so_far o) ((next ∷ ops) ∷ groups)
    ≡ (negate_if (is_negated (next ∷ ops)) (is_some (option_and_then (after_all (next ∷ ops)) o)) && list_all (group_holds args) groups)
all_goes_on args next ops groups None = refl
all_goes_on args next ops groups (Some left) = refl

one_goes_on : (args : List Arg) (whole : Arg) (next : Opcode) (ops : List Opcode) (groups : List (List Opcode)) (o : Option Arg)
    → rest_holds args (one_so_far whole o) ((next ∷ ops) ∷ groups)
    ≡ (negate_if (is_negated (next ∷ ops)) (is_some o || one_holds (next ∷ ops) whole) && list_all (group_holds args) groups)
one_goes_on args whole next ops groups None = refl
one_goes_on args whole next ops groups (Some left) = refl

looked_at_holds : (args : List Arg) (s : Standing) (op next : Opcode) (ops : List Opcode) (groups : List (List Opcode)) → is_inside s ≡ true
    → rest_holds args (looked_at s op) ((next ∷ ops) ∷ groups) ≡ rest_holds args s ((op ∷ next ∷ ops) ∷ groups)
looked_at_holds args Between op next ops groups h = absurd (false≢true h)
looked_at_holds args (All left) op next ops groups h = all_goes_on args next ops groups (after_opcode op left)
looked_at_holds args (One whole) op next ops groups h = one_goes_on args whole next ops groups (after_opcode op whole)
looked_at_holds args (Decided holds) op next ops groups h = refl
looked_at_holds args Failed op next ops groups h = refl

group_end_holds : (args : List Arg) (b : Bool) (groups : List (List Opcode)) → rest_holds args (group_end b) groups ≡ (b && list_all (group_holds args) groups)
group_end_holds args true groups = refl
group_end_holds args false groups = refl

-- within a group, what is left of the rule after the last opcode of that group
all_ends : (args : List Arg) (negated : Bool) (groups : List (List Opcode)) (o : Option Arg)
    → rest_holds args (closed negated (all_so_far o)) groups
    ≡ (negate_if negated (is_some (option_and_then (after_all []) o)) && list_all (group_holds args) groups)
all_ends args negated groups None = group_end_holds args (negate_if negated false) groups
all_ends args negated groups (Some left) = group_end_holds args (negate_if negated true) groups

one_ends : (args : List Arg) (whole : Arg) (negated : Bool) (groups : List (List Opcode)) (o : Option Arg)
    → rest_holds args (closed negated (one_so_far whole o)) groups
    ≡ (negate_if negated (is_some o || one_holds [] whole) && list_all (group_holds args) groups)
one_ends args whole negated groups None = group_end_holds args (negate_if negated false) groups
one_ends args whole negated groups (Some left) = group_end_holds args (negate_if negated true) groups

closed_holds : (args : List Arg) (s : Standing) (op : Opcode) (groups : List (List Opcode)) → is_inside s ≡ true
    → rest_holds args (closed (has op.options NEGATE) (looked_at s op)) groups ≡ rest_holds args s ((op ∷ []) ∷ groups)
closed_holds args Between op groups h = absurd (false≢true h)
closed_holds args (All left) op groups h = all_ends args (has op.options NEGATE) groups (after_opcode op left)
closed_holds args (One whole) op groups h = one_ends args whole (has op.options NEGATE) groups (after_opcode op whole)
closed_holds args (Decided holds) op groups h = group_end_holds args (negate_if (has op.options NEGATE) holds) groups
closed_holds args Failed op groups h = refl

-- one step: what is left of the rule holds before an opcode exactly if what is left after it does
step_holds : (args : List Arg) (s : Standing) (op : Opcode) (groups : List (List Opcode)) → (is_last op ≡ false → has_group groups ≡ true)
    → rest_holds args (step args s op) groups
    ≡ rest_holds args s (if is_last op then (op ∷ []) ∷ groups else onto_first op groups)
step_holds args s op groups h = by (is_last op) h
  where
    within : (groups : List (List Opcode)) → has_group groups ≡ true
        → rest_holds args (looked_at (entered args s op) op) groups ≡ rest_holds args s (onto_first op groups)
    within [] k = absurd (false≢true k)
    within ([] ∷ later) k = absurd (false≢true k)
    within ((next ∷ ops) ∷ later) k =
        looked_at_holds args (entered args s op) op next ops later (entered_inside args s op) ∙ entered_holds args s op (next ∷ ops) later

    by : (b : Bool) → (b ≡ false → has_group groups ≡ true)
        → rest_holds args (cond b (closed (has op.options NEGATE) (looked_at (entered args s op) op)) (looked_at (entered args s op) op)) groups
        ≡ rest_holds args s (cond b ((op ∷ []) ∷ groups) (onto_first op groups))
    by true k = closed_holds args (entered args s op) op groups (entered_inside args s op) ∙ entered_holds args s op [] groups
    by false k = within groups (k refl)

-- an opcode that is no action goes before the action of its rule
pub before_action : (op : Opcode) (ops : List Opcode) → is_act op ≡ false → action_of_rule (op ∷ ops) ≡ action_of_rule ops
before_action op ops h = by op.kind h
  where
    by : (k : OpKind) → is_act_kind k ≡ false
        → (elim k [
          | Act action line ↦ Rule line action
          | _ ↦ action_of_rule ops
        ]) ≡ action_of_rule ops
    by False h = refl
    by True h = refl
    by (Num n) h = refl
    by (Range lo hi) h = refl
    by (Mask m) h = refl
    by (Text cells seek) h = refl
    by (Act action line) h = absurd (false≢true (sym h))

-- between groups the rest of the code is its rules
pub between_means : (args : List Arg) (rules : List (List Opcode)) → rest_means args Between rules ≡ judged_by args rules
between_means args [] = refl
between_means args (rule ∷ rules) = refl

-- an opcode of a group begins what is left of it
begins_group : (op : Opcode) (groups : List (List Opcode)) → has_group (if is_last op then (op ∷ []) ∷ groups else onto_first op groups) ≡ true
begins_group op groups = by (is_last op) groups
  where
    by : (b : Bool) (groups : List (List Opcode)) → has_group (cond b ((op ∷ []) ∷ groups) (onto_first op groups)) ≡ true
    by true groups = refl
    by false [] = refl
    by false (group ∷ groups) = refl

stays_in_group : (ops : List Opcode) → closed_from true ops ≡ true → goes_into_group (rules_of ops) ≡ true
stays_in_group [] h = refl
stays_in_group (op ∷ ops) h = by (is_act op) refl h (rules_of ops)
  where
    begins : is_act op ≡ false → (rule : List Opcode) → has_group (groups_of (op ∷ rule)) ≡ true
    begins a rule = ap has_group (groups_from op rule a) ∙ begins_group op (groups_of rule)

    by : (b : Bool) → is_act op ≡ b → cond b (not true && closed_from false ops) (closed_from (not (is_last op)) ops) ≡ true
        → (rules : List (List Opcode)) → goes_into_group (cond b ((op ∷ []) ∷ rules) (onto_first op rules)) ≡ true
    by true a h rules = absurd (false≢true h)
    by false a h [] = begins a []
    by false a h (rule ∷ rules) = begins a rule

cond_alike : (b : Bool) (j : Verdict) → j ≡ cond b j j
cond_alike true j = refl
cond_alike false j = refl

-- one step: what is left of the code before an opcode that is no action, and after it
step_means : (args : List Arg) (s : Standing) (op : Opcode) (rules : List (List Opcode)) → is_act op ≡ false
    → (is_last op ≡ false → goes_into_group rules ≡ true)
    → rest_means args (step args s op) rules ≡ rest_means args s (onto_first op rules)
step_means args s op [] a h =
    let none : action_of_rule (op ∷ []) ≡ NoRule = before_action op [] a in
    let holds : Bool = rest_holds args s (groups_of (op ∷ [])) in
    cond_alike holds NoRule ∙ ap (λ j. cond holds j NoRule) (sym none)
step_means args s op (rule ∷ rules) a h =
    let holds : rest_holds args (step args s op) (groups_of rule) ≡ rest_holds args s (groups_of (op ∷ rule)) =
    step_holds args s op (groups_of rule) h ∙ ap (rest_holds args s) (sym (groups_from op rule a))
    in
    let action : action_of_rule rule ≡ action_of_rule (op ∷ rule) = sym (before_action op rule a) in
    (λ i. cond (holds i) (action i) (judged_by args rules))

-- an action ends its rule
action_means : (args : List Arg) (s : Standing) (op : Opcode) (ops : List Opcode) → is_act op ≡ true → is_within s ≡ false
    → walk args Between ops ≡ judged_by args (rules_of ops)
    → walk args s (op ∷ ops) ≡ rest_means args s (rules_of (op ∷ ops))
action_means args Between op ops a w later =
    let walked : walk args Between (op ∷ ops) ≡ action_of_rule (op ∷ []) = rw a refl in
    let cut : rules_of (op ∷ ops) ≡ (op ∷ []) ∷ rules_of ops = rw a refl in
    let none : groups_of (op ∷ []) ≡ [] = rw a refl in
    let held : action_of_rule (op ∷ []) ≡ rest_means args Between ((op ∷ []) ∷ rules_of ops) =
    ap (λ groups. cond (list_all (group_holds args) groups) (action_of_rule (op ∷ [])) (judged_by args (rules_of ops))) (sym none)
    in
    walked ∙ held ∙ ap (rest_means args Between) (sym cut)
action_means args (All left) op ops a w later = absurd (false≢true (sym w))
action_means args (One whole) op ops a w later = absurd (false≢true (sym w))
action_means args (Decided holds) op ops a w later = absurd (false≢true (sym w))
action_means args Failed op ops a w later = rw a later

-- the next opcode is within a group only if this one is not the last of its own
group_end_outside : (b : Bool) → is_within (group_end b) ≡ false
group_end_outside true = refl
group_end_outside false = refl

closed_outside : (negated : Bool) (s : Standing) → is_within (closed negated s) ≡ false
closed_outside negated Between = group_end_outside (negate_if negated true)
closed_outside negated (All left) = group_end_outside (negate_if negated true)
closed_outside negated (One whole) = group_end_outside (negate_if negated false)
closed_outside negated (Decided holds) = group_end_outside (negate_if negated holds)
closed_outside negated Failed = refl

step_within : (args : List Arg) (s : Standing) (op : Opcode) → is_within (step args s op) ≡ true → not (is_last op) ≡ true
step_within args s op h = by (is_last op) h
  where
    by : (b : Bool) → is_within (cond b (closed (has op.options NEGATE) (looked_at (entered args s op) op)) (looked_at (entered args s op) op)) ≡ true
        → not b ≡ true
    by true h = sym (closed_outside (has op.options NEGATE) (looked_at (entered args s op) op)) ∙ h
    by false h = refl

outside : (s : Standing) (inside : Bool) → (is_within s ≡ true → inside ≡ true) → not inside ≡ true → is_within s ≡ false
outside s inside h k = by (is_within s) h
  where
    by : (b : Bool) → (b ≡ true → inside ≡ true) → b ≡ false
    by false h = refl
    by true h = absurd (false≢true (ap not (sym (h refl)) ∙ k))

-- that the walk from here gives what the rest of the code means
abbrev WalkMeans : List Arg → Standing → Bool → List Opcode → Type 0
WalkMeans args s inside ops =
    closed_from inside ops ≡ true → (is_within s ≡ true → inside ≡ true) → walk args s ops ≡ rest_means args s (rules_of ops)

act_means : (args : List Arg) (s : Standing) (inside : Bool) (op : Opcode) (ops : List Opcode) → is_act op ≡ true
    → (not inside && closed_from false ops) ≡ true → (is_within s ≡ true → inside ≡ true) → WalkMeans args Between false ops
    → walk args s (op ∷ ops) ≡ rest_means args s (rules_of (op ∷ ops))
act_means args s inside op ops a c w later =
    let p = and_parts (not inside) (closed_from false ops) c in
    action_means args s op ops a (outside s inside w p.0) (later p.1 (λ h. h) ∙ between_means args (rules_of ops))

plain_means : (args : List Arg) (s : Standing) (op : Opcode) (ops : List Opcode) → is_act op ≡ false
    → closed_from (not (is_last op)) ops ≡ true → WalkMeans args (step args s op) (not (is_last op)) ops
    → walk args s (op ∷ ops) ≡ rest_means args s (rules_of (op ∷ ops))
plain_means args s op ops a c later =
    let walked : walk args s (op ∷ ops) ≡ walk args (step args s op) ops = rw a refl in
    let cut : rules_of (op ∷ ops) ≡ onto_first op (rules_of ops) = rw a refl in
    let into : is_last op ≡ false → goes_into_group (rules_of ops) ≡ true =
    λ l. stays_in_group ops (ap (λ b. closed_from (not b) ops) (sym l) ∙ c)
    in
    walked ∙ later c (step_within args s op) ∙ step_means args s op (rules_of ops) a into ∙ ap (rest_means args s) (sym cut)

-- the walk gives what the rest of the code means
pub walk_means : (args : List Arg) (s : Standing) (inside : Bool) (ops : List Opcode) → WalkMeans args s inside ops
walk_means args s inside [] c w = refl
walk_means args s inside (op ∷ ops) c w =
    by (is_act op) refl c (walk_means args Between false ops) (walk_means args (step args s op) (not (is_last op)) ops)
  where
    by : (b : Bool) → is_act op ≡ b → cond b (not inside && closed_from false ops) (closed_from (not (is_last op)) ops) ≡ true
        → WalkMeans args Between false ops → WalkMeans args (step args s op) (not (is_last op)) ops
        → walk args s (op ∷ ops) ≡ rest_means args s (rules_of (op ∷ ops))
    by true a c after_act after_step = act_means args s inside op ops a c w after_act
    by false a c after_act after_step = plain_means args s op ops a c after_step

-- the walk over a code without a fault gives what the code means
pub walk_of_faultless : FaultlessCodesAreWhole → (tag : CallTag) (ops : List Opcode) (args : List Arg) → fault_of tag ops ≡ None
    → walk args Between ops ≡ meaning ops args
walk_of_faultless whole tag ops args e =
    let closed : closed_from false ops ≡ true =
    closed_by_rules false ops (rules_closed (rules_of ops) ((whole tag ops).0 e).1) (λ h. absurd (false≢true h))
    in
    walk_means args Between false ops closed (λ h. h) ∙ between_means args (rules_of ops)

-- a rule that does not hold is passed over, its action included
pub rule_passed : (args : List Arg) (ops : List Opcode) → walk args Failed ops ≡ walk args Between (after_action ops)
rule_passed args [] = refl
rule_passed args (op ∷ ops) = by (is_act op) (is_last op) (rule_passed args ops)
  where
    by : (a l : Bool) → walk args Failed ops ≡ walk args Between (after_action ops)
        → cond (a && false) (action_of_rule (op ∷ [])) (walk args (cond a Between (cond l (closed (has op.options NEGATE) Failed) Failed)) ops)
        ≡ walk args Between (cond a ops (after_action ops))
    by true l later = refl
    by false true later = later
    by false false later = later
