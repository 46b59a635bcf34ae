-- When a note on a rule of a policy is true. A rule is told by its place among the rules of its policy, from 0.
use Rattle.std.specs.Prelude.{◌≡◌, ◌⊎◌, ◌<◌, ◌+◌, ◌^◌, ℕ, true, false, suc, List, [], ◌∷◌, ◌++◌, Option, None, Some, option_map, take, drop, slice_index_or, if◌then◌else◌}
use Rattle.sb_base.specs.Names.{is_name_of}
use Rattle.sb_call.specs.declared.arguments.Arg.{Arg}
use Rattle.sb_call.specs.declared.arguments.Arg.TheVariants as arg
use Rattle.sb_call.specs.declared.tags.CallTag.{CallTag}
use Rattle.sb_call.specs.declared.tags.CallTag.TheVariants.{Ping}
use Rattle.sb_compare.specs.Changes.{answer_to, grants}
use Rattle.sb_cover.specs.CallAccesses.{writes}
use Rattle.sb_cover.specs.Lengths.{is_sendable}
use Rattle.sb_cover.specs.PolicyCovers.{is_call}
use Rattle.sb_rule.specs.Verdicts.{rule_holds, test_holds, verdict_by}
use Rattle.sb_rule.specs.declared.actions.Action.TheVariants.{Deny, Alarm}
use Rattle.sb_rule.specs.declared.conditions.Test.{Test}
use Rattle.sb_rule.specs.declared.policies.Rule.{Rule}

-- the rule at a place
abbrev pub rule_at : List Rule → ℕ → Rule
rule_at rules n = slice_index_or rules n (record { tag = Ping; conds = []; action = Deny; line = 0 })

-- the place of the rule that decides a call, if one does
abbrev pub deciding : List Rule → CallTag → List Arg → Option ℕ
deciding [] tag args = None
deciding (rule ∷ rules) tag args = if rule_holds rule tag args then Some 0 else option_map suc (deciding rules tag args)

-- some call of the rule's tag has a property
abbrev pub SomeCall : CallTag → (List Arg → Type 0) → Type 0
SomeCall tag P = (args : List Arg) × (is_call tag args ≡ true) × P args

-- each call of the rule's tag has it
abbrev pub EachCall : CallTag → (List Arg → Type 0) → Type 0
EachCall tag P = (args : List Arg) → is_call tag args ≡ true → P args

-- 1. no call is decided by this rule: its conditions never hold together
abbrev pub NeverHolds : List Rule → ℕ → Type 0
NeverHolds rules n = EachCall (rule_at rules n).tag (λ args. rule_holds (rule_at rules n) (rule_at rules n).tag args ≡ false)

-- 1. no call is decided by this rule: earlier rules decide all calls that it fits, and it fits some
pub record IsCoveredBefore (rules : List Rule) (n : ℕ) : Type 0 where
  pub never : EachCall (rule_at rules n).tag (λ args. deciding rules (rule_at rules n).tag args ≡ Some n → ⊥)
  pub fits : SomeCall (rule_at rules n).tag (λ args. rule_holds (rule_at rules n) (rule_at rules n).tag args ≡ true)

-- the rules without the one at a place
abbrev pub without : List Rule → ℕ → List Rule
without rules n = take n rules ++ drop (n + 1) rules

-- 2. without this rule no call is answered differently
abbrev pub IsNeedless : List Rule → ℕ → Type 0
IsNeedless rules n = EachCall (rule_at rules n).tag (λ args.
    answer_to (verdict_by rules (rule_at rules n).tag args) args ≡ answer_to (verdict_by (without rules n) (rule_at rules n).tag args) args)

-- 3. this rule decides calls, and each is longer than a block
pub record DecidesLongCallsAlone (rules : List Rule) (n : ℕ) : Type 0 where
  pub some : SomeCall (rule_at rules n).tag (λ args. deciding rules (rule_at rules n).tag args ≡ Some n)
  pub long : EachCall (rule_at rules n).tag (λ args. deciding rules (rule_at rules n).tag args ≡ Some n → is_sendable args ≡ false)

-- 4. a rule that performs decides calls whose access does more than read
abbrev pub PerformsWrites : List Rule → ℕ → Type 0
PerformsWrites rules n = (grants (rule_at rules n).action ≡ true)
    × SomeCall (rule_at rules n).tag (λ args. (deciding rules (rule_at rules n).tag args ≡ Some n) × (writes (rule_at rules n).tag args ≡ true))

-- 5. no name passes the test
abbrev pub PassesNoName : Test → Type 0
PassesNoName test = (name : List ℕ) → is_name_of name ≡ true → test_holds test (arg.Str name) ≡ false

-- 6. no number that a parameter of 32 bits can have passes the test
abbrev pub PassesNoNumber : Test → Type 0
PassesNoNumber test = (number : ℕ) → number < 2 ^ 32 → test_holds test (arg.Num number) ≡ false

-- 7. a rule that denies fits calls which an earlier rule performs, though that one also performs calls that it does not fit
pub record DeniesTooLate (rules : List Rule) (early late : ℕ) : Type 0 where
  pub order : early < late
  pub performs : grants (rule_at rules early).action ≡ true
  pub denies : ((rule_at rules late).action ≡ Deny) ⊎ ((rule_at rules late).action ≡ Alarm)
  pub both : SomeCall (rule_at rules late).tag (λ args. (deciding rules (rule_at rules late).tag args ≡ Some early)
      × (rule_holds (rule_at rules late) (rule_at rules late).tag args ≡ true))
  pub other : SomeCall (rule_at rules late).tag (λ args. (deciding rules (rule_at rules late).tag args ≡ Some early)
      × (rule_holds (rule_at rules late) (rule_at rules late).tag args ≡ false))
