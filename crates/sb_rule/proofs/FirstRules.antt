-- The first rule that holds.
use Rattle.std.specs.List.{list_all}
use Rattle.std.proofs.Common.{◌≡◌, ◌∙◌, ℕ, Bool, true, false, cond, List, [], ◌∷◌, ◌++◌, ◌||◌, ◌&&◌, eqb, refl, ap}
use Rattle.std.proofs.lemmas.Bool.{false≢true, or_parts}
use Rattle.std.proofs.lemmas.Bool.Decides.{Decides-eqb}
use Rattle.sb_call.specs.Tags.{number_of}
use Rattle.sb_call.specs.declared.arguments.Arg.{Arg}
use Rattle.sb_call.specs.declared.tags.CallTag.{CallTag}
use Rattle.sb_rule.specs.Verdicts.{cond_holds, rule_holds, verdict_by_rule, verdict_by, some_rule_holds, FirstRuleDecides, IsFirstThatHolds, DecidingRuleIsFirst, NoRuleWhereNoneHolds, RulesWithoutConditionsDecide, AppendingKeepsVerdicts}
use Rattle.sb_rule.specs.declared.actions.Action.{Action}
use Rattle.sb_rule.specs.declared.policies.Rule.{Rule}
use Rattle.sb_rule.specs.declared.verdicts.Verdict.{Verdict}
use Rattle.sb_rule.specs.declared.verdicts.Verdict.TheVariants as verdict

pub first_rule_decides : FirstRuleDecides
first_rule_decides [] rule after tag args none holds = ap (λ b. cond b (verdict_by_rule rule) (verdict_by after tag args)) holds
first_rule_decides (r ∷ before) rule after tag args none holds =
    let p = or_parts (rule_holds r tag args) (some_rule_holds before tag args) none in
    ap (λ b. cond b (verdict_by_rule r) (verdict_by (before ++ rule ∷ after) tag args)) p.0 ∙ first_rule_decides before rule after tag args p.1 holds

abbrev is_rule : Verdict → Bool
is_rule (verdict.Rule line action) = true
is_rule verdict.NoRule = false

-- the line and the action of a verdict, and defaults if it is none
abbrev line_in : Verdict → ℕ
line_in (verdict.Rule line action) = line
line_in verdict.NoRule = 0

abbrev action_in : Action → Verdict → Action
action_in other (verdict.Rule line action) = action
action_in other verdict.NoRule = other

abbrev Decider : List Rule → CallTag → List Arg → ℕ → Action → Type 0
Decider rules tag args line action = (rule : Rule) × IsFirstThatHolds rules tag args rule × (rule.line ≡ line) × (rule.action ≡ action)

-- the first of rules, if it holds
decided_here : (rule : Rule) (rules : List Rule) (tag : CallTag) (args : List Arg) (line : ℕ) (action : Action) → rule_holds rule tag args ≡ true
    → verdict_by_rule rule ≡ verdict.Rule line action → Decider (rule ∷ rules) tag args line action
decided_here rule rules tag args line action holds e = (
  rule,
  record { before = []; after = rules; parts = refl; none_before = refl; holds = holds },
  ap line_in e,
  ap (action_in action) e,
)

-- and one after it, if it does not
decided_later : (rule : Rule) (rules : List Rule) (tag : CallTag) (args : List Arg) (line : ℕ) (action : Action) → rule_holds rule tag args ≡ false
    → Decider rules tag args line action → Decider (rule ∷ rules) tag args line action
decided_later rule rules tag args line action fails d =
    let first = d.1 in (
      d.0,
      record {
        before = rule ∷ first.before;
        after = first.after;
        parts = ap (λ l. rule ∷ l) first.parts;
        none_before = λ i. fails i || first.none_before i;
        holds = first.holds;
      },
      d.2,
      d.3,
    )

decided_step : (rule : Rule) (rules : List Rule) (tag : CallTag) (args : List Arg) (line : ℕ) (action : Action) (holds : Bool)
    → rule_holds rule tag args ≡ holds → (verdict_by rules tag args ≡ verdict.Rule line action → Decider rules tag args line action)
    → cond holds (verdict_by_rule rule) (verdict_by rules tag args) ≡ verdict.Rule line action → Decider (rule ∷ rules) tag args line action
decided_step rule rules tag args line action true h later e = decided_here rule rules tag args line action h e
decided_step rule rules tag args line action false h later e = decided_later rule rules tag args line action h (later e)

pub deciding_rule_is_first : DecidingRuleIsFirst
deciding_rule_is_first [] tag args line action e = absurd (false≢true (ap is_rule e))
deciding_rule_is_first (rule ∷ rules) tag args line action e =
    decided_step rule rules tag args line action (rule_holds rule tag args) refl (deciding_rule_is_first rules tag args line action) e

none_step : (rule : Rule) (b s : Bool) (v : Verdict) → (v ≡ verdict.NoRule → s ≡ false) → cond b (verdict_by_rule rule) v ≡ verdict.NoRule → (b || s) ≡ false
none_step rule true s v h e = ap is_rule e
none_step rule false s v h e = h e

none_back : (rule : Rule) (b s : Bool) (v : Verdict) → (s ≡ false → v ≡ verdict.NoRule) → (b || s) ≡ false → cond b (verdict_by_rule rule) v ≡ verdict.NoRule
none_back rule b s v h e = let p = or_parts b s e in ap (λ a. cond a (verdict_by_rule rule) v) p.0 ∙ h p.1

none_holds : (rules : List Rule) (tag : CallTag) (args : List Arg) → verdict_by rules tag args ≡ verdict.NoRule → some_rule_holds rules tag args ≡ false
none_holds [] tag args e = refl
none_holds (rule ∷ rules) tag args e =
    none_step rule (rule_holds rule tag args) (some_rule_holds rules tag args) (verdict_by rules tag args) (none_holds rules tag args) e

no_rule : (rules : List Rule) (tag : CallTag) (args : List Arg) → some_rule_holds rules tag args ≡ false → verdict_by rules tag args ≡ verdict.NoRule
no_rule [] tag args e = refl
no_rule (rule ∷ rules) tag args e =
    none_back rule (rule_holds rule tag args) (some_rule_holds rules tag args) (verdict_by rules tag args) (no_rule rules tag args) e

pub no_rule_where_none_holds : NoRuleWhereNoneHolds
no_rule_where_none_holds rules tag args = (none_holds rules tag args, no_rule rules tag args)

pub rules_without_conditions_decide : RulesWithoutConditionsDecide
rules_without_conditions_decide before rule after args bare none =
    let n = number_of rule.tag in
    let holds : rule_holds rule rule.tag args ≡ true =
    ap (λ conds. eqb n n && list_all (λ c. cond_holds c args) conds) bare ∙ ap (λ b. b && true) ((Decides-eqb n n).1 refl) in
    first_rule_decides before rule after rule.tag args none holds

kept_step : (rule : Rule) (b s : Bool) (v w : Verdict) → (s ≡ true → v ≡ w) → (b || s) ≡ true → cond b (verdict_by_rule rule) v ≡ cond b (verdict_by_rule rule) w
kept_step rule true s v w h e = refl
kept_step rule false s v w h e = h e

pub appending_keeps_verdicts : AppendingKeepsVerdicts
appending_keeps_verdicts [] more tag args some = absurd (false≢true some)
appending_keeps_verdicts (rule ∷ rules) more tag args some =
    kept_step rule (rule_holds rule tag args) (some_rule_holds rules tag args) (verdict_by (rules ++ more) tag args) (verdict_by rules tag args)
    (appending_keeps_verdicts rules more tag args) some
