-- What a policy says of a call.
use Rattle.std.specs.Prelude.{◌≡◌, ◌↔◌, ℕ, Bool, true, false, not, ◌&&◌, ◌==◌, nat_le, bit_and, if◌then◌else◌, List, [], ◌∷◌, ◌++◌, slice_index_or}
use Rattle.std.specs.List.{list_all, list_any}
use Rattle.sb_base.specs.Wide.{is_same}
use Rattle.sb_call.specs.Arguments.{arg_at}
use Rattle.sb_call.specs.Tags.{number_of}
use Rattle.sb_call.specs.declared.arguments.Arg.{Arg}
use Rattle.sb_call.specs.declared.arguments.Arg.TheVariants as arg
use Rattle.sb_call.specs.declared.tags.CallTag.{CallTag}
use Rattle.sb_rule.specs.Matching.{matches}
use Rattle.sb_rule.specs.declared.actions.Action.{Action}
use Rattle.sb_rule.specs.declared.conditions.Cond.{Cond}
use Rattle.sb_rule.specs.declared.conditions.Test.{Test}
use Rattle.sb_rule.specs.declared.conditions.Test.TheVariants.{OneOf, Range, Mask, Equal, Like}
use Rattle.sb_rule.specs.declared.policies.Policy.{Policy}
use Rattle.sb_rule.specs.declared.policies.Rule.{Rule}
use Rattle.sb_rule.specs.declared.verdicts.Verdict.{Verdict}
use Rattle.sb_rule.specs.declared.verdicts.Verdict.TheVariants as verdict

-- a number is one of a list, lies in a range or has a bit of a mask; a string is the same as another, or a pattern matches it
abbrev pub test_holds : Test → Arg → Bool
test_holds (OneOf numbers) (arg.Num value) = list_any (λ n. n == value) numbers
test_holds (Range lo hi) (arg.Num value) = nat_le lo value && nat_le value hi
test_holds (Mask mask) (arg.Num value) = not (bit_and value mask == 0)
test_holds (Equal text) (arg.Str units) = is_same units text
test_holds (Like pattern) (arg.Str units) = matches pattern units
test_holds _ _ = false

-- a condition holds if its test does; a negated one holds if its test does not
abbrev pub cond_holds : Cond → List Arg → Bool
cond_holds cond args =
    if cond.negated then not (test_holds cond.test (arg_at args cond.param)) else test_holds cond.test (arg_at args cond.param)

-- the rule is for the calls of this tag
abbrev pub is_for : CallTag → Rule → Bool
is_for tag rule = number_of rule.tag == number_of tag

-- a rule holds if it is for the tag and all its conditions hold
abbrev pub rule_holds : Rule → CallTag → List Arg → Bool
rule_holds rule tag args = is_for tag rule && list_all (λ cond. cond_holds cond args) rule.conds

-- what a rule says
abbrev pub verdict_by_rule : Rule → Verdict
verdict_by_rule rule = verdict.Rule rule.line rule.action

-- the first rule that holds decides
abbrev pub verdict_by : List Rule → CallTag → List Arg → Verdict
verdict_by [] tag args = verdict.NoRule
verdict_by (rule ∷ rules) tag args = if rule_holds rule tag args then verdict_by_rule rule else verdict_by rules tag args

-- what a policy says of a call
abbrev pub verdict_of : Policy → CallTag → List Arg → Verdict
verdict_of policy tag args = verdict_by policy.rules tag args

-- the policy of a target, and one without rules if there is none
abbrev pub policy_at : List Policy → ℕ → Policy
policy_at policies target = slice_index_or policies target (record { name = []; rules = [] })

-- some rule holds
abbrev pub some_rule_holds : List Rule → CallTag → List Arg → Bool
some_rule_holds rules tag args = list_any (λ rule. rule_holds rule tag args) rules

-- a rule that holds decides if no rule before it holds
abbrev pub FirstRuleDecides : Type 0
FirstRuleDecides = (before : List Rule) (rule : Rule) (after : List Rule) (tag : CallTag) (args : List Arg)
    → some_rule_holds before tag args ≡ false → rule_holds rule tag args ≡ true
    → verdict_by (before ++ rule ∷ after) tag args ≡ verdict_by_rule rule

-- the rules are those before this one, it, and those after it; none before it holds, and it holds
pub record IsFirstThatHolds (rules : List Rule) (tag : CallTag) (args : List Arg) (rule : Rule) : Type 0 where
  pub before : List Rule
  pub after : List Rule
  pub parts : rules ≡ before ++ rule ∷ after
  pub none_before : some_rule_holds before tag args ≡ false
  pub holds : rule_holds rule tag args ≡ true

-- if a rule decides, it is the first of the rules that holds, and line and action are its own
abbrev pub DecidingRuleIsFirst : Type 0
DecidingRuleIsFirst = (rules : List Rule) (tag : CallTag) (args : List Arg) (line : ℕ) (action : Action)
    → verdict_by rules tag args ≡ verdict.Rule line action
    → (rule : Rule) × IsFirstThatHolds rules tag args rule × (rule.line ≡ line) × (rule.action ≡ action)

-- there is no rule exactly if no rule holds
abbrev pub NoRuleWhereNoneHolds : Type 0
NoRuleWhereNoneHolds = (rules : List Rule) (tag : CallTag) (args : List Arg)
    → (verdict_by rules tag args ≡ verdict.NoRule) ↔ (some_rule_holds rules tag args ≡ false)

-- a rule without conditions decides each call of its tag on which no rule before it holds
abbrev pub RulesWithoutConditionsDecide : Type 0
RulesWithoutConditionsDecide = (before : List Rule) (rule : Rule) (after : List Rule) (args : List Arg)
    → rule.conds ≡ [] → some_rule_holds before rule.tag args ≡ false
    → verdict_by (before ++ rule ∷ after) rule.tag args ≡ verdict_by_rule rule

-- rules appended never change a verdict that a rule gave
abbrev pub AppendingKeepsVerdicts : Type 0
AppendingKeepsVerdicts = (rules more : List Rule) (tag : CallTag) (args : List Arg)
    → some_rule_holds rules tag args ≡ true → verdict_by (rules ++ more) tag args ≡ verdict_by rules tag args
