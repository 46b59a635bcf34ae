-- How questions are opened: the rules for a tag, with the numbers of their conditions.
use Rattle.std.specs.Prelude.{◌≡◌, ◌⊎◌, ◌++◌, ℕ, Bool, true, false, List, [], ◌∷◌, map, slice_index_or, if◌then◌else◌}
use Rattle.std.specs.List.{filter, list_all}
use Rattle.sb_book.specs.Decisions.{read_only_args}
use Rattle.sb_call.specs.declared.arguments.Arg.{Arg}
use Rattle.sb_call.specs.declared.tags.CallTag.{CallTag}
use Rattle.sb_cover.specs.Calls.{met_from}
use Rattle.sb_cover.specs.Pruning.{places, marks_by}
use Rattle.sb_cover.specs.declared.asked_conds.AskedCond.{AskedCond}
use Rattle.sb_cover.specs.declared.open_rules.OpenRule.{OpenRule}
use Rattle.sb_cover.specs.declared.open_rules.OpenQuestion.{OpenQuestion}
use Rattle.sb_cover.specs.declared.questions.Question.{Question}
use Rattle.sb_rule.specs.Verdicts.{cond_holds, is_for, rule_holds}
use Rattle.sb_rule.specs.declared.actions.Action.TheVariants.{Deny}
use Rattle.sb_rule.specs.declared.policies.Rule.{Rule}

-- there are more conditions, and the old ones have their numbers
abbrev pub AreMore : List AskedCond → List AskedCond → Type 0
AreMore old new = (more : List AskedCond) × (new ≡ old ++ more)

-- the rule at a place
abbrev pub rule_at : CallTag → List Rule → ℕ → Rule
rule_at tag rules place = slice_index_or rules place (record { tag = tag; conds = []; action = Deny; line = 0 })

-- the arguments of which a condition is asked
abbrev pub asked_of : Bool → List Arg → List Arg
asked_of is_cut args = if is_cut then read_only_args args else args

-- the open rules are at the places of the rules that hold, whatever further conditions have numbers
abbrev pub AreOpened : List AskedCond → CallTag → List Rule → Bool → List Rule → List OpenRule → Type 0
AreOpened conds tag all is_cut rules opened = (more : List AskedCond) (args : List Arg)
    → map (rule_at tag all) (places (marks_by (met_from (conds ++ more) 0 args) opened) (met_from (conds ++ more) 0 args) opened)
    ≡ filter (λ rule. rule_holds rule tag (asked_of is_cut args)) rules

-- each question is opened
abbrev pub AllOpened : List AskedCond → CallTag → List Question → List OpenQuestion → Type 0
AllOpened conds tag [] [] = Unit {0}
AllOpened conds tag [] (opened ∷ more) = ⊥
AllOpened conds tag (question ∷ questions) [] = ⊥
AllOpened conds tag (question ∷ questions) (opened ∷ more) =
    (opened.depth ≡ question.depth) × AreOpened conds tag question.rules question.is_cut question.rules opened.rules × AllOpened conds tag questions more

-- no condition of the rules is on a parameter that was read
abbrev pub AreUnread : List OpenRule → Type 0
AreUnread [] = Unit {0}
AreUnread (rule ∷ rules) = (rule.here ≡ []) × AreUnread rules

abbrev pub AllUnread : List OpenQuestion → Type 0
AllUnread [] = Unit {0}
AllUnread (question ∷ questions) = AreUnread question.rules × AllUnread questions

-- a rule that is for the tag was put, with conditions that hold as its own do; another was not
abbrev pub IsRulePut : List AskedCond → CallTag → Bool → Rule → ℕ → List OpenRule → List OpenRule → Type 0
IsRulePut conds tag is_cut rule place old new =
    ((is_for tag rule ≡ false) × (new ≡ old))
    ⊎ ((is_for tag rule ≡ true) × (opened : OpenRule) × (new ≡ old ++ opened ∷ []) × (opened.place ≡ place) × (opened.here ≡ [])
    × ((more : List AskedCond) (args : List Arg) → list_all (met_from (conds ++ more) 0 args) opened.later ≡ list_all (λ c. cond_holds c (asked_of is_cut args)) rule.conds))
