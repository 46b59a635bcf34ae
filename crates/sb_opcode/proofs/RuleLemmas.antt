-- A code rule by rule: where its rules begin, and what one of them says.
use Rattle.std.specs.Prelude.{not, None, Some, slice_index_or}
use Rattle.std.specs.List.{flat_map, list_all, onto_first}
use Rattle.std.proofs.Common.{◌≡◌, ◌≢◌, ◌∙◌, ◌≤◌, ◌<◌, ◌+◌, ◌-◌, ◌%◌, ◌^◌, ℕ, zero, suc, ltb, Bool, true, false, cond, List, [], ◌∷◌, ◌++◌, ◌&&◌, length, drop, refl, ap, sym, subst, arith}
use Rattle.std.proofs.lemmas.Bool.{and_parts, and_from, not-true, false≢true, ltb-false, ltb-true}
use Rattle.std.proofs.lemmas.List.{append_assoc, length-append, drop-drop, drop_more, get_or_append_left, get_or_push}
use Rattle.sb_call.specs.declared.arguments.Arg.{Arg}
use Rattle.sb_call.specs.declared.arguments.Arg.TheVariants as arg
use Rattle.sb_call.specs.declared.tags.CallTag.{CallTag}
use Rattle.sb_rule.specs.declared.verdicts.Verdict.{Verdict}
use Rattle.sb_rule.specs.declared.verdicts.Verdict.TheVariants.{Rule, NoRule}
use Rattle.sb_opcode.specs.Faults.{fault_of}
use Rattle.sb_opcode.specs.Groups.{is_act, is_act_kind, rules_of, groups_of, after_action}
use Rattle.sb_opcode.specs.Meaning.{action_of_rule, judged_by, rule_holds, rule_verdict}
use Rattle.sb_opcode.specs.Opcodes.{Opcode, OpKind, False, True, Num, Range, Mask, Text, Act}
use Rattle.sb_rule.specs.declared.actions.Action.{Action}
use Rattle.sb_opcode.specs.Options.{has_options}
use Rattle.sb_opcode.specs.Walking.{Standing, Between, Failed, closed, group_end, step, is_failed, walk, rule_walk, IsLone}
use Rattle.sb_opcode.specs.WholeGroups.{PartsAreTheList, FaultlessCodesAreWhole, acts_at_end, is_whole_group, is_whole_rule}
use Rattle.sb_opcode.specs.Beginnings.{AreFirst, IsBeginning}
use Rattle.sb_opcode.specs.Packing.{packed, record_of}
use Rattle.sb_opcode.specs.Unpacking.{is_packed, opcodes_of, action_known, first_known, opcode_known, passed_known}
use Rattle.sb_opcode.proofs.KnownLemmas.{later_known, later_passed, opcode_known_first, opcode_passed}
use Rattle.sb_opcode.proofs.PackingLemmas.{packing_of_opcodes}
use Rattle.sb_opcode.proofs.Closed.{closed_by_rules, closed_from, rules_closed}
use Rattle.sb_opcode.proofs.PassLemmas.{failed_is}
use Rattle.sb_opcode.proofs.WalkLemmas.{before_action, walk_means, between_means}

pub rule_step : (args : List Arg) (s t : Standing) (op : Opcode) (before mid : List Opcode) (whole : Verdict) → before ≡ op ∷ mid → is_act op ≡ false
    → t ≡ step args s op → rule_walk args s before ≡ whole → rule_walk args t mid ≡ whole
rule_step args s t op before mid whole e a h w =
    ap (λ u. rule_walk args u mid) h
    ∙ (λ i. cond (sym a i) (cond (is_failed s) NoRule (action_of_rule (op ∷ []))) (rule_walk args (step args s op) mid))
    ∙ ap (rule_walk args s) (sym e) ∙ w

-- a rule that has failed gives nothing
failed_gives : (args : List Arg) (ops : List Opcode) → rule_walk args Failed ops ≡ NoRule
failed_gives args [] = refl
failed_gives args (op ∷ ops) = by (is_act op) (step_failed op) (failed_gives args ops)
  where
    step_failed : (op : Opcode) → step args Failed op ≡ Failed
    step_failed op = last (Rattle.sb_opcode.specs.Groups.is_last op)
      where
        last : (b : Bool) → cond b Failed Failed ≡ Failed
        last true = refl
        last false = refl

    by : (a : Bool) → step args Failed op ≡ Failed → rule_walk args Failed ops ≡ NoRule
        → cond a (cond (is_failed Failed) NoRule (action_of_rule (op ∷ []))) (rule_walk args (step args Failed op) ops) ≡ NoRule
    by true f later = refl
    by false f later = ap (λ u. rule_walk args u ops) f ∙ later

pub rule_failed : (args : List Arg) (t : Standing) (mid : List Opcode) (whole : Verdict) → is_failed t ≡ true → rule_walk args t mid ≡ whole → NoRule ≡ whole
rule_failed args t mid whole f w = sym (failed_gives args mid) ∙ ap (λ u. rule_walk args u mid) (sym (failed_is t f)) ∙ w

-- after a first opcode that is a group of its own
lone_walk : (args : List Arg) (words later : List ℕ) (op : Opcode) (whole : Verdict) (holds : Bool) → Some (op, later) ≡ first_known words
    → is_act op ≡ false → step args Between op ≡ group_end holds → is_packed words ≡ true → rule_walk args Between (opcodes_of words) ≡ whole
    → rule_walk args (group_end holds) (opcodes_of later) ≡ whole
lone_walk args words later op whole holds e a s h w =
    rule_step args Between (group_end holds) op (opcodes_of words) (opcodes_of later) whole (opcode_known_first words later op e h) a (sym s) w

-- the walk to where the lone opcodes end
abbrev pub IsPast : List Arg → List ℕ → List ℕ → Type 0
IsPast args words rest = (is_packed rest ≡ true) × (rule_walk args Between (opcodes_of rest) ≡ rule_walk args Between (opcodes_of words))

pub lone_met : (args : List Arg) (words rest later : List ℕ) (holds : Bool) → IsPast args words rest → IsLone args rest holds later → holds ≡ true
    → IsPast args words later
lone_met args words rest later holds past lone met = (
  later_known rest later lone.0 lone.1 past.0,
  ap (λ b. rule_walk args (group_end b) (opcodes_of later)) (sym met)
      ∙ lone_walk args rest later lone.0 (rule_walk args Between (opcodes_of words)) holds lone.1 lone.2 lone.3 past.0 past.1,
)

pub lone_missed : (args : List Arg) (words rest later : List ℕ) (holds : Bool) → IsPast args words rest → IsLone args rest holds later → holds ≡ false
    → NoRule ≡ rule_walk args Between (opcodes_of words)
lone_missed args words rest later holds past lone missed =
    rule_failed args Failed (opcodes_of later) (rule_walk args Between (opcodes_of words)) refl
    (ap (λ b. rule_walk args (group_end b) (opcodes_of later)) (sym missed)
    ∙ lone_walk args rest later lone.0 (rule_walk args Between (opcodes_of words)) holds lone.1 lone.2 lone.3 past.0 past.1)

pub lone_shorter : (args : List Arg) (rest later : List ℕ) (holds : Bool) → is_packed rest ≡ true → IsLone args rest holds later
    → length (opcodes_of later) < length (opcodes_of rest)
lone_shorter args rest later holds h lone =
    let e : opcodes_of rest ≡ lone.0 ∷ opcodes_of later = opcode_known_first rest later lone.0 lone.1 h in
    omega (arith, ap length e)

-- words that begin with an action without options
pub act_says : (words : List ℕ) (args : List Arg) (line : ℕ) (action : Action) → 4 ≤ length words → slice_index_or words 0 0 ≡ 6
    → line ≡ slice_index_or words 3 0 % 2 ^ 32 → action ≡ action_known (slice_index_or words 2 0) → is_packed words ≡ true
    → Rule line action ≡ rule_walk args Between (opcodes_of words)
act_says [] args line action n e l a h = absurd (omega (arith, n))
act_says (w ∷ []) args line action n e l a h = absurd (omega (arith, n))
act_says (w ∷ x ∷ []) args line action n e l a h = absurd (omega (arith, n))
act_says (w ∷ x ∷ y ∷ []) args line action n e l a h = absurd (omega (arith, n))
act_says (head ∷ param ∷ first ∷ second ∷ later) args line action n e l a h =
    let op = opcode_known 6 param (Act (action_known first) (second % 2 ^ 32)) in
    let known : Some (op, later) ≡ first_known (head ∷ param ∷ first ∷ second ∷ later) = ap (λ k. first_known (k ∷ param ∷ first ∷ second ∷ later)) (sym e) in
    (λ i. Rule (l i) (a i)) ∙ sym (ap (rule_walk args Between) (opcode_known_first (head ∷ param ∷ first ∷ second ∷ later) later op known h))

-- the walk over the first rule is the walk over it alone
first_alone : (args : List Arg) (s : Standing) (rule later : List Opcode) → acts_at_end rule ≡ true → rule_walk args s (rule ++ later) ≡ walk args s rule
first_alone args s [] later h = absurd (false≢true h)
first_alone args s (op ∷ []) later h = by (is_failed s) (is_act op) (and_parts (is_act op) (not (has_options op.options)) h).0
  where
    by : (f a : Bool) → a ≡ true
        → cond a (cond f NoRule (action_of_rule (op ∷ []))) (rule_walk args (step args s op) later)
        ≡ cond (a && not f) (action_of_rule (op ∷ [])) (walk args (cond a Between (step args s op)) [])
    by true true e = refl
    by false true e = refl
    by f false e = absurd (false≢true e)
first_alone args s (op ∷ next ∷ rule) later h =
    let p = and_parts (not (is_act op)) (acts_at_end (next ∷ rule)) h in
    by (is_act op) p.0 (first_alone args (step args s op) (next ∷ rule) later p.1)
  where
    by : (a : Bool) → not a ≡ true → rule_walk args (step args s op) ((next ∷ rule) ++ later) ≡ walk args (step args s op) (next ∷ rule)
        → cond a (cond (is_failed s) NoRule (action_of_rule (op ∷ []))) (rule_walk args (step args s op) ((next ∷ rule) ++ later))
        ≡ cond (a && not (is_failed s)) (action_of_rule (op ∷ [])) (walk args (cond a Between (step args s op)) (next ∷ rule))
    by true n e = absurd (false≢true n)
    by false n e = e

-- a whole rule is one rule
one_rule : (rule : List Opcode) → acts_at_end rule ≡ true → rules_of rule ≡ rule ∷ []
one_rule [] h = absurd (false≢true h)
one_rule (op ∷ []) h = by (is_act op) (and_parts (is_act op) (not (has_options op.options)) h).0
  where
    by : (a : Bool) → a ≡ true → cond a ((op ∷ []) ∷ []) (onto_first op []) ≡ (op ∷ []) ∷ []
    by true e = refl
    by false e = absurd (false≢true e)
one_rule (op ∷ next ∷ rule) h =
    let p = and_parts (not (is_act op)) (acts_at_end (next ∷ rule)) h in
    by (is_act op) p.0 (rules_of (next ∷ rule)) (one_rule (next ∷ rule) p.1)
  where
    by : (a : Bool) → not a ≡ true → (rules : List (List Opcode)) → rules ≡ (next ∷ rule) ∷ [] → cond a ((op ∷ []) ∷ rules) (onto_first op rules) ≡ (op ∷ next ∷ rule) ∷ []
    by true n rules e = absurd (false≢true n)
    by false n rules e = ap (onto_first op) e

-- what a whole rule says
whole_says : (args : List Arg) (rule later : List Opcode) → is_whole_rule rule ≡ true → rule_walk args Between (rule ++ later) ≡ rule_verdict args rule
whole_says args rule later h =
    let p = and_parts (acts_at_end rule) (list_all is_whole_group (groups_of rule)) h in
    let one : rules_of rule ≡ rule ∷ [] = one_rule rule p.0 in
    let whole : list_all is_whole_rule (rules_of rule) ≡ true = ap (list_all is_whole_rule) one ∙ and_from (is_whole_rule rule) true h refl in
    let closed : closed_from false rule ≡ true = closed_by_rules false rule (rules_closed (rules_of rule) whole) (λ h. absurd (false≢true h)) in
    first_alone args Between rule later p.0 ∙ walk_means args Between false rule closed (λ h. h) ∙ between_means args (rules_of rule) ∙ ap (judged_by args) one

-- what the first rule of the rest of a code says
pub rest_says : PartsAreTheList → (args : List Arg) (ops rule : List Opcode) (rules : List (List Opcode)) → rules_of ops ≡ rule ∷ rules
    → is_whole_rule rule ≡ true → rule_walk args Between ops ≡ rule_verdict args rule
rest_says parts args ops rule rules e h =
    let split : ops ≡ rule ++ flat_map (λ part. part) rules = sym (parts is_act ops) ∙ ap (flat_map (λ part. part)) e in
    ap (rule_walk args Between) split ∙ whole_says args rule (flat_map (λ part. part) rules) h

-- one opcode passed over
pub passed_parts : (words later : List ℕ) (acts : Bool) → Some (acts, later) ≡ passed_known words → is_packed words ≡ true
    → (before : List ℕ) × (words ≡ before ++ later) × (length later < length words)
passed_parts words later acts e h =
    let p = opcode_passed words later acts e h in
    let parts : words ≡ record_of p.0 ++ later =
    sym (packing_of_opcodes words h) ∙ ap packed p.1 ∙ ap (λ l. record_of p.0 ++ l) (packing_of_opcodes later (later_passed words later acts e h)) in
    let some : 1 ≤ length (record_of p.0) = omega arith in
    (record_of p.0, parts, omega (arith, some, ap length parts, length-append (record_of p.0) later))

-- the walk to the end of the first rule: where it is
abbrev pub IsWithin : List ℕ → List ℕ → Type 0
IsWithin words rest =
    (is_packed rest ≡ true) × (after_action (opcodes_of rest) ≡ after_action (opcodes_of words)) × ((before : List ℕ) × (words ≡ before ++ rest))
    × (length rest ≤ length words)

pub suffix_of : (words rest later : List ℕ) → (before : List ℕ) × (words ≡ before ++ rest) → (before : List ℕ) × (rest ≡ before ++ later)
    → (before : List ℕ) × (words ≡ before ++ later)
suffix_of words rest later p q = (p.0 ++ q.0, p.1 ∙ ap (λ l. p.0 ++ l) q.1 ∙ sym (append_assoc p.0 q.0 later))

pub after_of : (words later : List ℕ) (acts : Bool) → Some (acts, later) ≡ passed_known words → is_packed words ≡ true
    → after_action (opcodes_of words) ≡ cond acts (opcodes_of later) (after_action (opcodes_of later))
after_of words later acts e h =
    let p = opcode_passed words later acts e h in
    ap after_action p.1 ∙ ap (λ b. cond b (opcodes_of later) (after_action (opcodes_of later))) (sym p.2)

abbrev has_first : List Opcode → Bool
has_first [] = false
has_first (op ∷ ops) = true

-- the first rule, and those after it
pub rules_step : (ops : List Opcode) → ops ≢ [] → (rule : List Opcode) × (rules_of ops ≡ rule ∷ rules_of (after_action ops))
rules_step [] some = absurd (some refl)
rules_step (op ∷ []) some = by (is_act op)
  where
    by : (a : Bool) → (rule : List Opcode) × (cond a ((op ∷ []) ∷ []) (onto_first op []) ≡ rule ∷ rules_of (cond a [] []))
    by true = (op ∷ [], refl)
    by false = (op ∷ [], refl)
rules_step (op ∷ next ∷ ops) some = by (is_act op) (rules_step (next ∷ ops) (λ e. false≢true (sym (ap has_first e))))
  where
    by : (a : Bool) → ((rule : List Opcode) × (rules_of (next ∷ ops) ≡ rule ∷ rules_of (after_action (next ∷ ops))))
        → (rule : List Opcode) × (cond a ((op ∷ []) ∷ rules_of (next ∷ ops)) (onto_first op (rules_of (next ∷ ops)))
        ≡ rule ∷ rules_of (cond a (next ∷ ops) (after_action (next ∷ ops))))
    by true p = (op ∷ [], refl)
    by false p = (op ∷ p.0, ap (onto_first op) p.1)

-- what the places found so far are
abbrev pub IsSoFar : List ℕ → List ℕ → List ℕ → Type 0
IsSoFar words rest places =
    (is_packed rest ≡ true) × ((before : List ℕ) × (words ≡ before ++ rest))
    × (rules_of (opcodes_of rest) ≡ drop (length places) (rules_of (opcodes_of words)))
    × (length places + length (rules_of (opcodes_of rest)) ≡ length (rules_of (opcodes_of words)))
    × AreFirst words places

drop_next : {X : Type 0} (n : ℕ) (xs : List X) (x : X) (ys : List X) → drop n xs ≡ x ∷ ys → drop (n + 1) xs ≡ ys
drop_next n xs x ys e = sym (drop-drop 1 n xs) ∙ ap (drop 1) e

has_opcodes : (rest : List ℕ) → is_packed rest ≡ true → 0 < length rest → opcodes_of rest ≢ []
has_opcodes rest h some e =
    let none : length rest ≡ 0 = ap length (sym (packing_of_opcodes rest h) ∙ ap packed e) in
    absurd (omega (arith, none, some))

seam : (before rest : List ℕ) → drop (length before) (before ++ rest) ≡ rest
seam [] rest = refl
seam (x ∷ before) rest = seam before rest

dropped : (words rest : List ℕ) → (before : List ℕ) × (words ≡ before ++ rest) → drop (length words - length rest) words ≡ rest
dropped words rest p =
    let len : length words - length rest ≡ length p.0 = omega (arith, ap length p.1, length-append p.0 rest) in
    ap (λ n. drop n words) len ∙ ap (drop (length p.0)) p.1 ∙ seam p.0 rest

first_more : (words places : List ℕ) (place : ℕ) → AreFirst words places → IsBeginning words (length places) place → AreFirst words (places ++ place ∷ [])
first_more words places place old new number d h = by (ltb number (length places)) refl
  where
    by : (b : Bool) → ltb number (length places) ≡ b → IsBeginning words number (slice_index_or (places ++ place ∷ []) number d)
    by true t =
        let inside : number < length places = ltb-true number (length places) t in
        subst (IsBeginning words number) (sym (get_or_append_left places (place ∷ []) d number inside)) (old number d inside)
    by false t =
        let least : length places ≤ number = ltb-false number (length places) t in
        let last : number ≡ length places = omega (arith, h, least, length-append places (place ∷ [])) in
        subst (λ p. IsBeginning words number p) (sym (get_or_push places place d number (sym last)))
        (subst (λ n. IsBeginning words n place) (sym last) new)

pub place_found : (words rest later places : List ℕ) → IsSoFar words rest places → 0 < length rest → is_packed later ≡ true
    → opcodes_of later ≡ after_action (opcodes_of rest) → (before : List ℕ) × (rest ≡ before ++ later)
    → IsSoFar words later (places ++ (length words - length rest) ∷ [])
place_found words rest later places so_far some packed_later is suffix =
    let step = rules_step (opcodes_of rest) (has_opcodes rest so_far.0 some) in
    let cut : rules_of (opcodes_of rest) ≡ step.0 ∷ rules_of (opcodes_of later) = step.1 ∙ ap (λ ops. step.0 ∷ rules_of ops) (sym is) in
    let many : length (places ++ (length words - length rest) ∷ []) ≡ length places + 1 = length-append places ((length words - length rest) ∷ []) in
    let tail : drop (length words - length rest) words ≡ rest = dropped words rest so_far.1 in
    let place : IsBeginning words (length places) (length words - length rest) = (
      omega arith,
      ap is_packed tail ∙ so_far.0,
      ap (λ w. rules_of (opcodes_of w)) tail ∙ so_far.2,
    )
    in (
      packed_later,
      suffix_of words rest later so_far.1 suffix,
      sym (drop_next (length places) (rules_of (opcodes_of words)) step.0 (rules_of (opcodes_of later)) (sym so_far.2 ∙ cut))
          ∙ ap (λ n. drop n (rules_of (opcodes_of words))) (sym many),
      omega (arith, many, so_far.3, ap length cut),
      first_more words places (length words - length rest) so_far.4 place,
    )

-- a rule of a code without a fault is whole
pub rule_whole : (rules : List (List Opcode)) (number : ℕ) (d : List Opcode) → list_all is_whole_rule rules ≡ true → number < length rules
    → is_whole_rule (slice_index_or rules number d) ≡ true
rule_whole [] number d h within = absurd (omega (arith, within))
rule_whole (rule ∷ rules) zero d h within = (and_parts (is_whole_rule rule) (list_all is_whole_rule rules) h).0
rule_whole (rule ∷ rules) (suc number) d h within =
    rule_whole rules number d (and_parts (is_whole_rule rule) (list_all is_whole_rule rules) h).1 (omega (arith, within))

-- what the rule of a number says
pub rule_says : PartsAreTheList → FaultlessCodesAreWhole → (tag : CallTag) (ops : List Opcode) (args : List Arg) (number : ℕ) (tail : List Opcode) → fault_of tag ops ≡ None
    → number < length (rules_of ops) → rules_of tail ≡ drop number (rules_of ops)
    → rule_walk args Between tail ≡ rule_verdict args (slice_index_or (rules_of ops) number [])
rule_says parts whole tag ops args number tail sound within is =
    rest_says parts args tail (slice_index_or (rules_of ops) number []) (drop (number + 1) (rules_of ops)) (is ∙ drop_more (rules_of ops) number [] within)
    (rule_whole (rules_of ops) number [] ((whole tag ops).0 sound).1 within)

-- what is left of the words from the place of a rule on
pub begins : (ops : List Opcode) (words rest places : List ℕ) (number d : ℕ) → words ≡ packed ops → opcodes_of words ≡ ops → AreFirst (packed ops) places
    → number < length places → rest ≡ drop (slice_index_or places number d) words → rules_of (opcodes_of rest) ≡ drop number (rules_of ops)
begins ops words rest places number d are back first within same =
    ap (λ l. rules_of (opcodes_of l)) (same ∙ ap (drop (slice_index_or places number d)) are) ∙ (first number d within).2
    ∙ ap (λ l. drop number (rules_of l)) (ap opcodes_of (sym are) ∙ back)

-- an action gives a rule
abbrev pub is_rule : Verdict → Bool
is_rule NoRule = false
is_rule (Rule line action) = true

acts_give : (rule : List Opcode) → acts_at_end rule ≡ true → is_rule (action_of_rule rule) ≡ true
acts_give [] h = absurd (false≢true h)
acts_give (op ∷ []) h = by op.kind (and_parts (is_act op) (not (has_options op.options)) h).0
  where
    by : (k : OpKind) → is_act_kind k ≡ true → is_rule (elim k [
      | Act action line ↦ Rule line action
      | _ ↦ NoRule
    ]) ≡ true
    by (Act action line) h = refl
    by False h = absurd (false≢true h)
    by True h = absurd (false≢true h)
    by (Num n) h = absurd (false≢true h)
    by (Range lo hi) h = absurd (false≢true h)
    by (Mask m) h = absurd (false≢true h)
    by (Text cells seek) h = absurd (false≢true h)
acts_give (op ∷ next ∷ rule) h =
    let p = and_parts (not (is_act op)) (acts_at_end (next ∷ rule)) h in
    ap is_rule (before_action op (next ∷ rule) (not-true (is_act op) p.0)) ∙ acts_give (next ∷ rule) p.1

whole_gives : (rule : List Opcode) → is_whole_rule rule ≡ true → is_rule (action_of_rule rule) ≡ true
whole_gives rule h = acts_give rule (and_parts (acts_at_end rule) (list_all is_whole_group (groups_of rule)) h).0

pub not_held : (args : List Arg) (rule : List Opcode) → is_whole_rule rule ≡ true → NoRule ≡ rule_verdict args rule → rule_holds args rule ≡ false
not_held args rule w e = by (rule_holds args rule) refl
  where
    by : (b : Bool) → rule_holds args rule ≡ b → b ≡ false
    by false h = refl
    by true h =
        absurd (false≢true (ap is_rule (e ∙ ap (λ b. cond b (action_of_rule rule) NoRule) h) ∙ whole_gives rule w))

pub held : (args : List Arg) (rule : List Opcode) (line : ℕ) (action : Action) → Rule line action ≡ rule_verdict args rule
    → (rule_holds args rule ≡ true) × (Rule line action ≡ action_of_rule rule)
held args rule line action e = by (rule_holds args rule) refl
  where
    by : (b : Bool) → rule_holds args rule ≡ b → (b ≡ true) × (Rule line action ≡ action_of_rule rule)
    by true h = (refl, e ∙ ap (λ b. cond b (action_of_rule rule) NoRule) h)
    by false h = absurd (false≢true (sym (ap is_rule (e ∙ ap (λ b. cond b (action_of_rule rule) NoRule) h))))
