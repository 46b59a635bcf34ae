-- Judging by candidates leaves nothing out.
use Rattle.std.specs.Prelude.{slice_index_or}
use Rattle.std.specs.List.{list_all}
use Rattle.std.proofs.Common.{◌≡◌, ◌∙◌, ◌≤◌, ◌<◌, ◌+◌, ◌-◌, ℕ, zero, suc, Bool, true, false, cond, List, [], ◌∷◌, ◌&&◌, eqb, ltb, filter, length, map, drop, refl, ap, sym, subst, arith}
use Rattle.std.proofs.lemmas.Bool.{and_parts, and_from, ltb-false, ltb-true}
use Rattle.std.proofs.lemmas.List.{get_or-map, drop_more}
use Rattle.sb_call.specs.Arguments.{fits, FittingArgsAreOfTheirKinds}
use Rattle.sb_call.specs.Tags.{number_of, TagsComeBack}
use Rattle.sb_call.specs.declared.arguments.Arg.{Arg}
use Rattle.sb_call.specs.declared.tags.CallTag.{CallTag}
use Rattle.sb_call.specs.declared.tags.CallTag.TheVariants.{Ping}
use Rattle.sb_rule.specs.Verdicts as rule
use Rattle.sb_rule.specs.WellMade.{is_well_formed, is_well_made_rule}
use Rattle.sb_rule.specs.declared.actions.Action.TheVariants.{Allow}
use Rattle.sb_rule.specs.declared.policies.Rule.{Rule}
use Rattle.sb_rule.specs.declared.verdicts.Verdict.TheVariants.{NoRule}
use Rattle.sb_index.specs.Sets.{Has}
use Rattle.sb_index.specs.Tables.{HasAllThatHold}
use Rattle.sb_opcode.specs.Groups.{rules_of}
use Rattle.sb_opcode.specs.Meaning.{action_of_rule, judged_by, rule_holds}
use Rattle.sb_opcode.specs.Opcodes.{Opcode}
use Rattle.sb_compile.specs.Compiling.{code_of, rule_code}
use Rattle.sb_rule.specs.Verdicts.{is_for}
use Rattle.sb_compile.specs.Indexed.{CandidatesHaveEachThatHolds, CompiledRulesAreFew, HasEachThatHolds}
use Rattle.sb_compile.proofs.Cuts.{is_formed, rules_are}
use Rattle.sb_compile.proofs.Verdicts.{call_formed, rule_means, rules_formed, same_tag}

-- some rule, which is the default where a list has none
abbrev some_rule : Rule
some_rule = record { tag = Ping; conds = []; action = Allow; line = 0 }

all_mine : (tag : CallTag) (rules : List Rule) → list_all (is_for tag) (filter (is_for tag) rules) ≡ true
all_mine tag [] = refl
all_mine tag (r ∷ rules) = by (is_for tag r) refl (all_mine tag rules)
  where
    by : (b : Bool) → is_for tag r ≡ b → list_all (is_for tag) (filter (is_for tag) rules) ≡ true
        → list_all (is_for tag) (cond b (r ∷ filter (is_for tag) rules) (filter (is_for tag) rules)) ≡ true
    by true e later = λ i. e i && later i
    by false e later = later

at_passes : {X : Type 0} (test : X → Bool) (xs : List X) (i : ℕ) (d : X) → list_all test xs ≡ true → i < length xs → test (slice_index_or xs i d) ≡ true
at_passes test [] i d h within = absurd (omega (arith, within))
at_passes test (x ∷ xs) zero d h within = (and_parts (test x) (list_all test xs) h).0
at_passes test (x ∷ xs) (suc i) d h within = at_passes test xs i d (and_parts (test x) (list_all test xs) h).1 (omega (arith, within))

mapped : {X Y : Type 0} (f : X → Y) (xs : List X) → length (map f xs) ≡ length xs
mapped f [] = refl
mapped f (x ∷ xs) = ap suc (mapped f xs)

fewer : {X : Type 0} (test : X → Bool) (xs : List X) → length (filter test xs) ≤ length xs
fewer test [] = omega arith
fewer test (x ∷ xs) = by (test x) (fewer test xs)
  where
    by : (b : Bool) → length (filter test xs) ≤ length xs → length (cond b (x ∷ filter test xs) (filter test xs)) ≤ length (x ∷ xs)
    by true e = omega (arith, e)
    by false e = omega (arith, e)

-- the rules of a compiled code are the codes of the rules for its tag
rules_mine : (tag : CallTag) (rules : List Rule) (ops : List Opcode) → list_all is_well_made_rule rules ≡ true → ops ≡ code_of rules tag
    → rules_of ops ≡ map rule_code (filter (is_for tag) rules)
rules_mine tag rules ops h e = ap rules_of e ∙ rules_are (filter (is_for tag) rules) (call_formed tag rules (rules_formed rules h))

pub compiled_rules_are_few : CompiledRulesAreFew
compiled_rules_are_few code index c =
    let many : length (rules_of code.code) ≡ length (filter (is_for code.tag) index.rules) =
    ap length (rules_mine code.tag index.rules code.code c.well_made c.codes) ∙ mapped rule_code (filter (is_for code.tag) index.rules)
    in
    omega (arith, many, c.few, fewer (is_for code.tag) index.rules)

-- a rule whose code holds, holds
mine_holds : (kinds : FittingArgsAreOfTheirKinds) → TagsComeBack → (tag : CallTag) (args : List Arg) (r : Rule) → fits tag args ≡ true → is_formed r ≡ true
    → is_for tag r ≡ true → rule_holds args (rule_code r) ≡ true → rule.rule_holds r tag args ≡ true
mine_holds kinds tags tag args r f formed mine h =
    let here : list_all (is_well_formed tag) r.conds ≡ true =
    subst (λ t. list_all (is_well_formed t) r.conds ≡ true) (same_tag tags r.tag tag mine) formed
    in
    and_from (eqb (number_of r.tag) (number_of tag)) (list_all (λ c. rule.cond_holds c args) r.conds) mine (sym (rule_means kinds tag args r f here) ∙ h)

pub candidates_have_each : FittingArgsAreOfTheirKinds → TagsComeBack → CandidatesHaveEachThatHolds
candidates_have_each kinds tags code index c args set f has number within h =
    let mine = filter (is_for code.tag) index.rules in
    let cut : rules_of code.code ≡ map rule_code mine = rules_mine code.tag index.rules code.code c.well_made c.codes in
    let many : length (rules_of code.code) ≡ length mine = ap length cut ∙ mapped rule_code mine in
    let inside : number < length mine = omega (arith, within, many) in
    let r = slice_index_or mine number some_rule in
    let is : slice_index_or (rules_of code.code) number [] ≡ rule_code r =
    ap (λ l. slice_index_or l number []) cut ∙ get_or-map rule_code mine number some_rule [] inside
    in
    let formed : is_formed r ≡ true = at_passes is_formed mine number some_rule (call_formed code.tag index.rules (rules_formed index.rules c.well_made)) inside in
    let mine_is : is_for code.tag r ≡ true = at_passes (is_for code.tag) mine number some_rule (all_mine code.tag index.rules) inside in
    let has_mine : HasAllThatHold index.rules code.tag args set = subst (λ t. HasAllThatHold index.rules t args set) c.tag has in
    has_mine number some_rule inside (mine_holds kinds tags code.tag args r f formed mine_is (sym (ap (rule_holds args) is) ∙ h))

all_dropped : (at : ℕ) (xs : List (List Opcode)) → length xs ≤ at → drop at xs ≡ []
all_dropped zero [] e = refl
all_dropped (suc at) [] e = refl
all_dropped zero (x ∷ xs) e = absurd (omega (arith, e))
all_dropped (suc at) (x ∷ xs) e = all_dropped at xs (omega (arith, e))

-- rules that do not hold are left out without loss
skip_one : (args : List Arg) (rules : List (List Opcode)) (at : ℕ) → (at < length rules → rule_holds args (slice_index_or rules at []) ≡ false)
    → judged_by args (drop at rules) ≡ judged_by args (drop (at + 1) rules)
skip_one args rules at h = by (ltb at (length rules)) refl
  where
    by : (b : Bool) → ltb at (length rules) ≡ b → judged_by args (drop at rules) ≡ judged_by args (drop (at + 1) rules)
    by true t =
        let within = ltb-true at (length rules) t in
        ap (judged_by args) (drop_more rules at [] within)
        ∙ ap (λ b. cond b (action_of_rule (slice_index_or rules at [])) (judged_by args (drop (at + 1) rules))) (h within)
    by false t =
        let past = ltb-false at (length rules) t in
        ap (judged_by args) (all_dropped at rules past ∙ sym (all_dropped (at + 1) rules (omega (arith, past))))

none_more : (at : ℕ) → at ≡ at + 0
none_more at = omega arith

skip_some : (args : List Arg) (rules : List (List Opcode)) (n at : ℕ)
    → ((k : ℕ) → at ≤ k → k < at + n → k < length rules → rule_holds args (slice_index_or rules k []) ≡ false)
    → judged_by args (drop at rules) ≡ judged_by args (drop (at + n) rules)
skip_some args rules zero at h = ap (λ m. judged_by args (drop m rules)) (none_more at)
skip_some args rules (suc n) at h =
    skip_one args rules at (λ within. h at (omega arith) (omega arith) within)
    ∙ skip_some args rules n (at + 1) (λ k a b within. h k (omega (arith, a)) (omega (arith, b)) within)
    ∙ ap (λ m. judged_by args (drop m rules)) (shift at n)
  where
    shift : (at n : ℕ) → at + 1 + n ≡ at + suc n
    shift at n = omega arith

-- a rule that is no candidate does not hold
not_held : (ops : List Opcode) (args : List Arg) (set : List ℕ) (k : ℕ) → HasEachThatHolds ops args set → (Has set k → ⊥) → k < length (rules_of ops)
    → rule_holds args (slice_index_or (rules_of ops) k []) ≡ false
not_held ops args set k has lacks within = by (rule_holds args (slice_index_or (rules_of ops) k [])) refl
  where
    by : (b : Bool) → rule_holds args (slice_index_or (rules_of ops) k []) ≡ b → b ≡ false
    by true e = absurd (lacks (has k within e))
    by false e = refl

-- the walk goes from one place to the next candidate
pub to_next : (ops : List Opcode) (args : List Arg) (set : List ℕ) (at number : ℕ) → HasEachThatHolds ops args set → at ≤ number
    → ((k : ℕ) → at ≤ k → k < number → Has set k → ⊥) → judged_by args (drop at (rules_of ops)) ≡ judged_by args (drop number (rules_of ops))
to_next ops args set at number has le none =
    skip_some args (rules_of ops) (number - at) at
    (λ k a b within. not_held ops args set k has (none k a (omega (arith, b, le))) within)
    ∙ ap (λ m. judged_by args (drop m (rules_of ops))) (whole at number le)
  where
    whole : (at number : ℕ) → at ≤ number → at + (number - at) ≡ number
    whole at number le = omega (arith, le)

-- past a candidate that does not hold
pub past_one : (ops : List Opcode) (args : List Arg) (number : ℕ) → rule_holds args (slice_index_or (rules_of ops) number []) ≡ false
    → judged_by args (drop number (rules_of ops)) ≡ judged_by args (drop (number + 1) (rules_of ops))
past_one ops args number h = skip_one args (rules_of ops) number (λ within. h)

-- a candidate that holds decides
pub at_one : (ops : List Opcode) (args : List Arg) (number : ℕ) → number < length (rules_of ops) → rule_holds args (slice_index_or (rules_of ops) number []) ≡ true
    → judged_by args (drop number (rules_of ops)) ≡ action_of_rule (slice_index_or (rules_of ops) number [])
at_one ops args number within h =
    ap (judged_by args) (drop_more (rules_of ops) number [] within)
    ∙ ap (λ b. cond b (action_of_rule (slice_index_or (rules_of ops) number [])) (judged_by args (drop (number + 1) (rules_of ops)))) h

-- from the end on no rule is left
pub at_end : (args : List Arg) (rules : List (List Opcode)) (at : ℕ) → length rules ≤ at → judged_by args (drop at rules) ≡ NoRule
at_end args [] zero h = refl
at_end args [] (suc at) h = refl
at_end args (r ∷ rules) zero h = absurd (omega (arith, h))
at_end args (r ∷ rules) (suc at) h = at_end args rules at (omega (arith, h))
