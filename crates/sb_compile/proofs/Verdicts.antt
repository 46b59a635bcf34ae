-- The code of a call says what the rules say.
use Rattle.std.specs.Prelude.{Option, None, Some, nat_le}
use Rattle.std.specs.List.{flat_map, list_all}
use Rattle.std.proofs.Common.{◌≡◌, ◌∙◌, ℕ, Bool, true, false, not, cond, List, [], ◌∷◌, ◌++◌, ◌&&◌, eqb, filter, length, map, refl, ap, sym, subst}
use Rattle.std.proofs.lemmas.Bool.{and_parts, eqb-true, false≢true}
use Rattle.sb_call.specs.Arguments.{fits, FittingArgsAreOfTheirKinds}
use Rattle.sb_call.specs.Tags.{number_of, tag_of, TagsComeBack}
use Rattle.sb_call.specs.declared.arguments.Arg.{Arg}
use Rattle.sb_call.specs.declared.tags.CallTag.{CallTag}
use Rattle.sb_call.specs.declared.tags.CallTag.TheVariants.{Ping}
use Rattle.sb_rule.specs.Verdicts.{cond_holds, verdict_by, verdict_by_rule}
use Rattle.sb_rule.specs.WellMade.{is_well_formed, is_well_made_rule, is_for_readers}
use Rattle.sb_rule.specs.declared.conditions.Cond.{Cond}
use Rattle.sb_rule.specs.declared.policies.Policy.{Policy}
use Rattle.sb_rule.specs.declared.policies.Rule.{Rule}
use Rattle.sb_opcode.specs.Groups.{is_act}
use Rattle.sb_opcode.specs.Opcodes.{Opcode}
use Rattle.sb_opcode.specs.Opcodes.{OpKind}
use Rattle.sb_opcode.specs.Opcodes as op
use Rattle.sb_opcode.specs.Meaning.{group_holds, rule_holds, action_of_rule, judged_by, meaning}
use Rattle.sb_compile.specs.Compiling.{cond_code, rule_code, code_of, code_in, program_of}
use Rattle.sb_rule.specs.Verdicts.{is_for}
use Rattle.sb_compile.specs.Laws.{CompilingKeepsVerdicts}
use Rattle.sb_compile.proofs.Conditions.{cond_means}
use Rattle.sb_compile.proofs.Cuts.{no_acts, is_no, act_of, is_formed, conds_no_acts, groups_are, rules_are}

conds_mean : (kinds : FittingArgsAreOfTheirKinds) (tag : CallTag) (args : List Arg) (cs : List Cond) → fits tag args ≡ true → list_all (is_well_formed tag) cs ≡ true
    → list_all (group_holds args) (map cond_code cs) ≡ list_all (λ c. cond_holds c args) cs
conds_mean kinds tag args [] f h = refl
conds_mean kinds tag args (c ∷ cs) f h =
    let p = and_parts (is_well_formed tag c) (list_all (is_well_formed tag) cs) h in
    λ i. cond_means kinds tag args c f p.0 i && conds_mean kinds tag args cs f p.1 i

-- the code of a rule for the call holds if its conditions do
pub rule_means : (kinds : FittingArgsAreOfTheirKinds) (tag : CallTag) (args : List Arg) (rule : Rule) → fits tag args ≡ true → list_all (is_well_formed tag) rule.conds ≡ true
    → rule_holds args (rule_code rule) ≡ list_all (λ c. cond_holds c args) rule.conds
rule_means kinds tag args rule f h = ap (list_all (group_holds args)) (groups_are tag rule h) ∙ conds_mean kinds tag args rule.conds f h

action_later : (kind : OpKind) (options : Rattle.sb_opcode.specs.declared.options.Options.Options) (param : ℕ) (ops : List Opcode)
    → is_act (record { kind = kind; param = param; options = options }) ≡ false
    → action_of_rule (record { kind = kind; param = param; options = options } ∷ ops) ≡ action_of_rule ops
action_later op.False options param ops h = refl
action_later op.True options param ops h = refl
action_later (op.Num n) options param ops h = refl
action_later (op.Range lo hi) options param ops h = refl
action_later (op.Mask mask) options param ops h = refl
action_later (op.Text cells seek) options param ops h = refl
action_later (op.Act action line) options param ops h = absurd (false≢true (sym h))

pub action_is : (ops : List Opcode) (rule : Rule) → no_acts ops ≡ true → action_of_rule (ops ++ act_of rule ∷ []) ≡ verdict_by_rule rule
action_is [] rule h = refl
action_is (op ∷ ops) rule h =
    let p = and_parts (not (is_act op)) (no_acts ops) h in
    action_later op.kind op.options op.param (ops ++ act_of rule ∷ []) (is_no p.0) ∙ action_is ops rule p.1

abbrev some_tag : Option CallTag → CallTag
some_tag None = Ping
some_tag (Some tag) = tag

-- tags of one number are one tag
pub same_tag : TagsComeBack → (a b : CallTag) → eqb (number_of a) (number_of b) ≡ true → a ≡ b
same_tag tags a b h = ap some_tag (sym (tags a)) ∙ ap (λ n. some_tag (tag_of n)) (eqb-true (number_of a) (number_of b) h) ∙ ap some_tag (tags b)

-- one rule more
rule_step : (kinds : FittingArgsAreOfTheirKinds) → TagsComeBack → (tag : CallTag) (args : List Arg) (rule : Rule) (rules : List Rule) → fits tag args ≡ true
    → is_formed rule ≡ true → judged_by args (map rule_code (filter (is_for tag) rules)) ≡ verdict_by rules tag args
    → (mine : Bool) → is_for tag rule ≡ mine
    → judged_by args (map rule_code (cond mine (rule ∷ filter (is_for tag) rules) (filter (is_for tag) rules)))
    ≡ cond (mine && list_all (λ c. cond_holds c args) rule.conds) (verdict_by_rule rule) (verdict_by rules tag args)
rule_step kinds tags tag args rule rules f formed later true e =
    let formed_here : list_all (is_well_formed tag) rule.conds ≡ true =
    subst (λ t. list_all (is_well_formed t) rule.conds ≡ true) (same_tag tags rule.tag tag e) formed in
    let holds = rule_means kinds tag args rule f formed_here in
    let action = action_is (flat_map cond_code rule.conds) rule (conds_no_acts tag rule.conds formed_here) in
    (λ i. cond (holds i) (action i) (later i))
rule_step kinds tags tag args rule rules f formed later false e = later

rules_mean : (kinds : FittingArgsAreOfTheirKinds) → TagsComeBack → (tag : CallTag) (args : List Arg) (rules : List Rule) → fits tag args ≡ true
    → list_all is_formed rules ≡ true → judged_by args (map rule_code (filter (is_for tag) rules)) ≡ verdict_by rules tag args
rules_mean kinds tags tag args [] f h = refl
rules_mean kinds tags tag args (rule ∷ rules) f h =
    let p = and_parts (is_formed rule) (list_all is_formed rules) h in
    rule_step kinds tags tag args rule rules f p.0 (rules_mean kinds tags tag args rules f p.1) (is_for tag rule) refl

code_is : (policy : Policy) (tag : CallTag) → code_in (program_of policy) tag ≡ code_of policy.rules tag
code_is policy Ping = refl
code_is policy _ = refl

pub rules_formed : (rules : List Rule) → list_all is_well_made_rule rules ≡ true → list_all is_formed rules ≡ true
rules_formed [] h = refl
rules_formed (rule ∷ rules) h =
    let p = and_parts (is_well_made_rule rule) (list_all is_well_made_rule rules) h in
    let q = and_parts (nat_le (length rule.conds) 8 && is_for_readers rule.action rule.tag) (is_formed rule) p.0 in
    λ i. q.1 i && rules_formed rules p.1 i

pub call_formed : (tag : CallTag) (rules : List Rule) → list_all is_formed rules ≡ true → list_all is_formed (filter (is_for tag) rules) ≡ true
call_formed tag [] h = refl
call_formed tag (rule ∷ rules) h =
    let p = and_parts (is_formed rule) (list_all is_formed rules) h in
    by (is_for tag rule) p.0 (call_formed tag rules p.1)
  where
    by : (b : Bool) → is_formed rule ≡ true → list_all is_formed (filter (is_for tag) rules) ≡ true
        → list_all is_formed (cond b (rule ∷ filter (is_for tag) rules) (filter (is_for tag) rules)) ≡ true
    by true formed later = λ i. formed i && later i
    by false formed later = later

pub compiling_keeps_verdicts : FittingArgsAreOfTheirKinds → TagsComeBack → CompilingKeepsVerdicts
compiling_keeps_verdicts kinds tags policy tag args w f =
    let formed = rules_formed policy.rules (and_parts (nat_le (length policy.rules) 256) (list_all is_well_made_rule policy.rules) w).1 in
    ap (λ ops. meaning ops args) (code_is policy tag)
    ∙ ap (judged_by args) (rules_are (filter (is_for tag) policy.rules) (call_formed tag policy.rules formed))
    ∙ rules_mean kinds tags tag args policy.rules f formed
