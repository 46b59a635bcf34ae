-- What policies can have as strings and patterns, a script can have too.
use Rattle.std.specs.Bool.{beq}
use Rattle.std.specs.List.{list_all}
use Rattle.std.proofs.Common.{◌≡◌, ◌∙◌, ◌<◌, ℕ, zero, suc, Bool, true, false, cond, not, Option, None, Some, List, [], ◌∷◌, ◌++◌, ◌&&◌, eqb, leb, ltb, length, map, get_or, refl, ap, sym, subst, arith}
use Rattle.std.proofs.lemmas.Bool.{and_parts, eqb-true, false≢true}
use Rattle.std.proofs.lemmas.Bool.Decides.{nat_tests}
use Rattle.std.proofs.lemmas.List.Folds.{list_all-append}
use Rattle.sb_base.specs.Surrogates.{is_high, is_low, is_paired, is_paired_after, WalksFindPairs}
use Rattle.sb_base.specs.Wide.{is_text_unit}
use Rattle.sb_call.specs.Arguments.{kind_at}
use Rattle.sb_call.specs.Parameters.{is_number_kind}
use Rattle.sb_call.specs.Tags.{shape_of}
use Rattle.sb_call.specs.declared.tags.CallTag.{CallTag}
use Rattle.sb_rule.specs.Limits.{most_conditions, most_rules}
use Rattle.sb_rule.specs.PatternReading.{is_pattern, text_of}
use Rattle.sb_rule.specs.PatternLimits.{most_units}
use Rattle.sb_rule.specs.WellMade.{is_for_readers, is_number_test, is_policy_text, is_sensible, is_well_formed, is_well_made, is_well_made_rule}
use Rattle.sb_rule.specs.declared.cells.Cell.{Cell}
use Rattle.sb_rule.specs.declared.cells.Cell.TheVariants.{Lit, One, Any}
use Rattle.sb_rule.specs.declared.conditions.Cond.{Cond}
use Rattle.sb_rule.specs.declared.conditions.Test.{Test}
use Rattle.sb_rule.specs.declared.conditions.Test.TheVariants.{OneOf, Range, Mask, Equal, Like}
use Rattle.sb_rule.specs.declared.policies.Policy.{Policy}
use Rattle.sb_rule.specs.declared.policies.Rule.{Rule}
use Rattle.sb_cover.specs.AskedConds.{cells_of_cond, cells_of_test}
use Rattle.sb_cover.specs.CallAccesses.{access_param, access_rules_by}
use Rattle.sb_cover.specs.PlainQuestions.{is_plain_asked, is_plain_cond, is_plain_question, is_plain_rule}
use Rattle.sb_cover.specs.PolicyCovers.{questions_of}
use Rattle.sb_cover.specs.Positions.{cells_at}
use Rattle.sb_cover.specs.Shown.{are_plain, is_plain_unit}
use Rattle.sb_cover.specs.declared.asked_conds.AskedCond.{AskedCond}

-- what a walk finds of one unit
low_first : (low follows : Bool) → beq low follows ≡ true → low ≡ follows
low_first true true h = refl
low_first false false h = refl
low_first true false h = absurd (false≢true h)
low_first false true h = absurd (false≢true h)

low_is_not_high : (u : ℕ) → is_low u ≡ true → is_high u ≡ false
low_is_not_high u h = grind (arith, nat_tests)

plain_unit : (u : ℕ) → is_text_unit u ≡ true → is_high u ≡ false → is_low u ≡ false → is_plain_unit u ≡ true
plain_unit u text high low = grind (arith, nat_tests)

-- one literal, and what follows it
literal : (w : ℕ) (rest : List Cell) (follows : Bool) → is_text_unit w ≡ true → beq (is_low w) follows ≡ true
    → ((follows : Bool) → is_high w ≡ follows → are_plain follows rest ≡ true) → are_plain follows (Lit w ∷ rest) ≡ true
literal w rest true text low later =
    let is : is_low w ≡ true = low_first (is_low w) true low in
    λ i. is i && later false (low_is_not_high w is) i
literal w rest false text low later = by (is_high w) refl
  where
    by : (h : Bool) → is_high w ≡ h → cond h (are_plain true rest) (is_plain_unit w && are_plain false rest) ≡ true
    by true e = later true e
    by false e = λ i. plain_unit w text e (low_first (is_low w) false low) i && later false e i

-- a wildcard
wild : (rest : List Cell) (follows : Bool) → beq false follows ≡ true → are_plain false rest ≡ true → (not follows && are_plain false rest) ≡ true
wild rest true h later = absurd (false≢true h)
wild rest false h later = later

-- a question mark that means itself
question_mark : (rest : List Cell) (follows : Bool) → beq false follows ≡ true → are_plain false rest ≡ true → are_plain follows (Lit 63 ∷ rest) ≡ true
question_mark rest true h later = absurd (false≢true h)
question_mark rest false h later = later

plain_cells : (cells : List Cell) (follows : Bool) → is_paired_after follows (text_of cells) ≡ true → list_all is_text_unit (text_of cells) ≡ true → are_plain follows cells ≡ true
plain_cells [] follows paired text = paired
plain_cells (One ∷ rest) follows paired text =
    let p = and_parts (beq false follows) (is_paired_after false (text_of rest)) paired in
    wild rest follows p.0 (plain_cells rest false p.1 text)
plain_cells (Any ∷ rest) follows paired text =
    let p = and_parts (beq false follows) (is_paired_after false (text_of rest)) paired in
    wild rest follows p.0 (plain_cells rest false p.1 text)
plain_cells (Lit w ∷ rest) follows paired text = by (eqb w 63) refl paired text (λ f paired text. plain_cells rest f paired text)
  where
    by : (b : Bool) → eqb w 63 ≡ b → is_paired_after follows (cond b (47 ∷ 63 ∷ []) (w ∷ []) ++ text_of rest) ≡ true
        → list_all is_text_unit (cond b (47 ∷ 63 ∷ []) (w ∷ []) ++ text_of rest) ≡ true
        → ((f : Bool) → is_paired_after f (text_of rest) ≡ true → list_all is_text_unit (text_of rest) ≡ true → are_plain f rest ≡ true) → are_plain follows (Lit w ∷ rest) ≡ true
    by true e paired text later =
        let p = and_parts (beq false follows) (is_paired_after false (text_of rest)) paired in
        subst (λ n. are_plain follows (Lit n ∷ rest) ≡ true) (sym (eqb-true w 63 e)) (question_mark rest follows p.0 (later false p.1 text))
    by false e paired text later =
        let p = and_parts (beq (is_low w) follows) (is_paired_after (is_high w) (text_of rest)) paired in
        let t = and_parts (is_text_unit w) (list_all is_text_unit (text_of rest)) text in
        literal w rest follows t.0 p.0 (λ f h. later f (subst (λ b. is_paired_after b (text_of rest) ≡ true) h p.1) t.1)

plain_text : (us : List ℕ) (follows : Bool) → is_paired_after follows us ≡ true → list_all is_text_unit us ≡ true → are_plain follows (map Lit us) ≡ true
plain_text [] follows paired text = paired
plain_text (w ∷ us) follows paired text =
    let p = and_parts (beq (is_low w) follows) (is_paired_after (is_high w) us) paired in
    let t = and_parts (is_text_unit w) (list_all is_text_unit us) text in
    literal w (map Lit us) follows t.0 p.0 (λ f h. plain_text us f (subst (λ b. is_paired_after b us ≡ true) h p.1) t.1)

policy_text : WalksFindPairs → (us : List ℕ) → is_policy_text us ≡ true → (is_paired_after false us ≡ true) × (list_all is_text_unit us ≡ true)
policy_text walks us h =
    let p = and_parts (leb (length us) most_units && list_all is_text_unit us) (is_paired us) h in
    (walks us ∙ p.1, (and_parts (leb (length us) most_units) (list_all is_text_unit us) p.0).1)

-- what a test of a well-made rule names, a script can have
pub plain_test : WalksFindPairs → (test : Test) → is_sensible test ≡ true → are_plain false (cells_of_test test) ≡ true
plain_test walks (OneOf numbers) h = refl
plain_test walks (Range lo hi) h = refl
plain_test walks (Mask mask) h = refl
plain_test walks (Equal text) h = let p = policy_text walks text h in plain_text text false p.0 p.1
plain_test walks (Like pattern) h =
    let q = and_parts (is_pattern pattern) (is_policy_text (text_of pattern)) h in
    let p = policy_text walks (text_of pattern) q.1 in
    plain_cells pattern false p.0 p.1

-- so can it what a policy names
plain_conds : WalksFindPairs → (tag : CallTag) (conds : List Cond) → list_all (is_well_formed tag) conds ≡ true → list_all is_plain_cond conds ≡ true
plain_conds walks tag [] made = refl
plain_conds walks tag (cond ∷ conds) made =
    let p = and_parts (is_well_formed tag cond) (list_all (is_well_formed tag) conds) made in
    let q = and_parts (ltb cond.param (length (shape_of tag))) (beq (is_number_test cond.test) (is_number_kind (kind_at tag cond.param)) && is_sensible cond.test) p.0 in
    let r = and_parts (beq (is_number_test cond.test) (is_number_kind (kind_at tag cond.param))) (is_sensible cond.test) q.1 in
    λ i. plain_test walks cond.test r.1 i && plain_conds walks tag conds p.1 i

plain_rules : WalksFindPairs → (rules : List Rule) → list_all is_well_made_rule rules ≡ true → list_all is_plain_rule rules ≡ true
plain_rules walks [] made = refl
plain_rules walks (rule ∷ rules) made =
    let p = and_parts (is_well_made_rule rule) (list_all is_well_made_rule rules) made in
    let q = and_parts (leb (length rule.conds) most_conditions && is_for_readers rule.action rule.tag) (list_all (is_well_formed rule.tag) rule.conds) p.0 in
    λ i. plain_conds walks rule.tag rule.conds q.1 i && plain_rules walks rules p.1 i

access_plain : (tag : CallTag) (param : Option ℕ) → list_all is_plain_rule (access_rules_by tag param) ≡ true
access_plain tag None = refl
access_plain tag (Some param) = refl

pub plain_questions : WalksFindPairs → (tag : CallTag) (policies : List Policy) → list_all is_well_made policies ≡ true → list_all is_plain_question (questions_of tag policies) ≡ true
plain_questions walks tag [] made = λ i. access_plain tag (access_param tag) i && true
plain_questions walks tag (policy ∷ policies) made =
    let p = and_parts (is_well_made policy) (list_all is_well_made policies) made in
    let q = and_parts (leb (length policy.rules) most_rules) (list_all is_well_made_rule policy.rules) p.0 in
    λ i. plain_rules walks policy.rules q.1 i && plain_questions walks tag policies p.1 i

-- the patterns of plain conditions are plain, and so is the one at each place
pub plain_patterns : (conds : List AskedCond) (patterns : List (List Cell)) → patterns ≡ map cells_of_cond conds → list_all is_plain_asked conds ≡ true → list_all (are_plain false) patterns ≡ true
plain_patterns conds patterns e plain = ap (list_all (are_plain false)) e ∙ each conds plain
  where
    each : (conds : List AskedCond) → list_all is_plain_asked conds ≡ true → list_all (are_plain false) (map cells_of_cond conds) ≡ true
    each [] plain = refl
    each (asked ∷ conds) plain =
        let p = and_parts (is_plain_asked asked) (list_all is_plain_asked conds) plain in
        λ i. p.0 i && each conds p.1 i

pub plain_at : (patterns : List (List Cell)) (k : ℕ) → list_all (are_plain false) patterns ≡ true → are_plain false (cells_at patterns k) ≡ true
plain_at [] k plain = refl
plain_at (cells ∷ patterns) zero plain = (and_parts (are_plain false cells) (list_all (are_plain false) patterns) plain).0
plain_at (cells ∷ patterns) (suc k) plain = plain_at patterns k (and_parts (are_plain false cells) (list_all (are_plain false) patterns) plain).1

-- what all elements pass, each passes
pub element_passes : {X : Type 0} → (test : X → Bool) (xs : List X) (i : ℕ) (x : X) → i < length xs → x ≡ get_or xs i x → list_all test xs ≡ true → test x ≡ true
element_passes test [] i x low is all = absurd (omega (arith, low))
element_passes test (y ∷ ys) zero x low is all = ap test is ∙ (and_parts (test y) (list_all test ys) all).0
element_passes test (y ∷ ys) (suc i) x low is all = element_passes test ys i x (omega (arith, low)) is (and_parts (test y) (list_all test ys) all).1

-- a condition is put
pub plain_put : (old new : List AskedCond) (c d : Cond) (is_cut : Bool) → new ≡ old ++ (record { cond = d; is_cut = is_cut }) ∷ [] → d ≡ c → is_plain_cond c ≡ true
    → list_all is_plain_asked old ≡ true → list_all is_plain_asked new ≡ true
plain_put old new c d is_cut put same plain before =
    ap (list_all is_plain_asked) put ∙ list_all-append is_plain_asked old ((record { cond = d; is_cut = is_cut }) ∷ []) ∙ (λ i. before i && ((ap is_plain_cond same ∙ plain) i && true))
