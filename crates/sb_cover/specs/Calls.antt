-- Lists of arguments that stand for all, from one parameter on.
use Rattle.std.specs.Prelude.{◌≡◌, ◌⊎◌, ◌≤◌, ◌+◌, ◌-◌, ◌==◌, ◌&&◌, ◌++◌, ℕ, Bool, true, false, nat_le, nat_lt, List, [], ◌∷◌, map, length, slice_index_or, take, drop}
use Rattle.std.specs.List.{Contains, list_all}
use Rattle.sb_call.specs.Arguments.{arg_at, fit}
use Rattle.sb_call.specs.declared.arguments.Arg.{Arg}
use Rattle.sb_call.specs.declared.tags.ParamKind.{ParamKind}
use Rattle.sb_cover.specs.AskedConds.{cond_at, is_met}
use Rattle.sb_cover.specs.Choices.{is_passable, units_in}
use Rattle.sb_cover.specs.Pruning.{places, marks_by, marks_in}
use Rattle.sb_cover.specs.declared.asked_conds.AskedCond.{AskedCond}
use Rattle.sb_cover.specs.declared.open_rules.OpenRule.{OpenRule}
use Rattle.sb_cover.specs.declared.open_rules.OpenQuestion.{OpenQuestion}

-- which conditions hold of arguments, of which the first is that of the given parameter
abbrev pub met_from : List AskedCond → ℕ → List Arg → ℕ → Bool
met_from conds param args n = is_met (cond_at conds n) (arg_at args ((cond_at conds n).cond.param - param))

-- the conditions of the rule here are on the given parameter or one before it, and those later on parameters after it
pub record IsSplit (conds : List AskedCond) (param : ℕ) (rule : OpenRule) : Type 0 where
  pub here : list_all (λ n. nat_le (cond_at conds n).cond.param param) rule.here ≡ true
  pub later : list_all (λ n. nat_lt param (cond_at conds n).cond.param) rule.later ≡ true

-- the same of all rules of a list
abbrev pub AreSplit : List AskedCond → ℕ → List OpenRule → Type 0
AreSplit conds param [] = Unit {0}
AreSplit conds param (rule ∷ rules) = IsSplit conds param rule × AreSplit conds param rules

-- and of all questions
abbrev pub AllSplit : List AskedCond → ℕ → List OpenQuestion → Type 0
AllSplit conds param [] = Unit {0}
AllSplit conds param (question ∷ questions) = AreSplit conds param question.rules × AllSplit conds param questions

-- the same rules are the first that hold by both tests, for each question
abbrev pub AnswerAlike : (ℕ → Bool) → (ℕ → Bool) → List OpenQuestion → Type 0
AnswerAlike f g [] = Unit {0}
AnswerAlike f g (question ∷ questions) =
    (take question.depth (places (marks_by f question.rules) f question.rules) ≡ take question.depth (places (marks_by g question.rules) g question.rules))
    × AnswerAlike f g questions

-- the same of the rules that a label marks, by their later conditions
abbrev pub AnswerAlikeIn : List ℕ → (ℕ → Bool) → (ℕ → Bool) → List OpenQuestion → Type 0
AnswerAlikeIn label f g [] = Unit {0}
AnswerAlikeIn label f g (question ∷ questions) =
    (take question.depth (places (marks_in label) f question.rules) ≡ take question.depth (places (marks_in label) g question.rules))
    × AnswerAlikeIn (drop (length question.rules) label) f g questions

-- the places of the rules that are left are those of the marked rules, by new numbers
abbrev pub AreMarkedRules : List OpenRule → List ℕ → List OpenRule → Type 0
AreMarkedRules rules label left =
    (old : ℕ → ℕ) × ((f : ℕ → Bool) → map old (places (marks_by f left) f left) ≡ places (marks_in label) f rules)

-- the questions that are left have those rules that the label marks, each with its later conditions
abbrev pub AreLeft : List OpenQuestion → List ℕ → List OpenQuestion → Type 0
AreLeft [] label [] = Unit {0}
AreLeft [] label (rest ∷ more) = ⊥
AreLeft (question ∷ questions) label [] = ⊥
AreLeft (question ∷ questions) label (rest ∷ more) =
    (rest.depth ≡ question.depth) × AreMarkedRules question.rules label rest.rules × AreLeft questions (drop (length question.rules) label) more

-- a marked rule was put with the conditions that are left, and another was not
abbrev pub IsMarkedPut : ℕ → OpenRule → List OpenRule → List OpenRule → Type 0
IsMarkedPut mark rule old new =
    (((mark == 1) ≡ false) × (new ≡ old))
    ⊎ (((mark == 1) ≡ true) × (rest : OpenRule) × (new ≡ old ++ rest ∷ []) × (rest.place ≡ length old)
    × ((f : ℕ → Bool) → (list_all f rest.here && list_all f rest.later) ≡ list_all f rule.later))

-- the marked rules among the first ones are in the list, numbered anew, with their old places beside them
pub record AreMarkedSoFar (left rules : List OpenRule) (label whole_label : List ℕ) (whole : List OpenRule) : Type 0 where
  pub olds : List ℕ
  pub as_many : length olds ≡ length left
  pub below : (f : ℕ → Bool) → list_all (λ n. nat_lt n (length left)) (places (marks_by f left) f left) ≡ true
  pub same : (f : ℕ → Bool)
      → map (λ n. slice_index_or olds n 0) (places (marks_by f left) f left) ++ places (marks_in label) f rules ≡ places (marks_in whole_label) f whole

-- no string is longer than that at its place in the other list
abbrev pub IsNotLonger : List Arg → List Arg → Type 0
IsNotLonger [] [] = Unit {0}
IsNotLonger [] (b ∷ bs) = ⊥
IsNotLonger (a ∷ as') [] = ⊥
IsNotLonger (a ∷ as') (b ∷ bs) = (units_in a ≤ units_in b) × IsNotLonger as' bs

-- one of these calls fits the kinds, decides as the other one does, and is not longer
pub record HasCall (conds : List AskedCond) (param : ℕ) (kinds : List ParamKind) (questions : List OpenQuestion) (calls : List (List Arg)) (other : List Arg) : Type 0 where
  pub call : List Arg
  pub is : Contains calls call
  pub fits : fit kinds call ≡ true
  pub alike : AnswerAlike (met_from conds param call) (met_from conds param other) questions
  pub short : IsNotLonger call other

-- for each list of arguments that fits the kinds there is one of these
abbrev pub AreCalls : List AskedCond → ℕ → List ParamKind → List OpenQuestion → List (List Arg) → Type 0
AreCalls conds param kinds questions calls =
    (other : List Arg) → list_all is_passable other ≡ true → fit kinds other ≡ true → HasCall conds param kinds questions calls other

-- the lists of arguments at a place
abbrev pub later_at : List (List (List Arg)) → ℕ → List (List Arg)
later_at laters k = slice_index_or laters k []

-- after a value with this label one of these calls stands for each list of later arguments
pub record HasLater (conds : List AskedCond) (param : ℕ) (kinds : List ParamKind) (questions : List OpenQuestion) (calls : List (List Arg)) (value : Arg) (label : List ℕ) (other : List Arg) : Type 0 where
  pub later : List Arg
  pub is : Contains calls (value ∷ later)
  pub fits : fit kinds later ≡ true
  pub alike : AnswerAlikeIn label (met_from conds param later) (met_from conds param other) questions
  pub short : IsNotLonger later other

abbrev pub AreLater : List AskedCond → ℕ → List ParamKind → List OpenQuestion → List (List Arg) → Arg → List ℕ → Type 0
AreLater conds param kinds questions calls value label =
    (other : List Arg) → list_all is_passable other ≡ true → fit kinds other ≡ true → HasLater conds param kinds questions calls value label other

-- an argument that passes the first test, before arguments that pass the second, passes the third with them
abbrev pub JoinTo : (Arg → Bool) → (List Arg → Bool) → (List Arg → Bool) → Type 0
JoinTo one more every = (x : Arg) (xs : List Arg) → one x ≡ true → more xs ≡ true → every (x ∷ xs) ≡ true
