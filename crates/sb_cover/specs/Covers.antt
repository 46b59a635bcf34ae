-- What a cover of the calls of a tag is.
use Rattle.std.specs.Prelude.{◌≡◌, ◌+◌, ℕ, Bool, true, List, [], ◌∷◌, take, if◌then◌else◌}
use Rattle.std.specs.List.{Contains, filter, list_all}
use Rattle.sb_book.specs.Decisions.{read_only_args}
use Rattle.sb_call.specs.Arguments.{fits}
use Rattle.sb_call.specs.declared.arguments.Arg.{Arg}
use Rattle.sb_call.specs.declared.tags.CallTag.{CallTag}
use Rattle.sb_cover.specs.Calls.{IsNotLonger}
use Rattle.sb_cover.specs.Choices.{is_passable}
use Rattle.sb_cover.specs.declared.questions.Question.{Question}
use Rattle.sb_rule.specs.Verdicts.{rule_holds, verdict_by, verdict_by_rule}
use Rattle.sb_rule.specs.declared.policies.Rule.{Rule}
use Rattle.sb_rule.specs.declared.verdicts.Verdict.{Verdict}
use Rattle.sb_rule.specs.declared.verdicts.Verdict.TheVariants as verdict

-- the arguments of which a question asks
abbrev pub args_asked : Question → List Arg → List Arg
args_asked question args = if question.is_cut then read_only_args args else args

-- the answer: the first rules that hold, as many as are asked for
abbrev pub answer : Question → CallTag → List Arg → List Rule
answer question tag args = take question.depth (filter (λ rule. rule_holds rule tag (args_asked question args)) question.rules)

-- all questions have the same answers for two calls
abbrev pub HaveSameAnswers : CallTag → List Question → List Arg → List Arg → Type 0
HaveSameAnswers tag [] a b = Unit {0}
HaveSameAnswers tag (question ∷ questions) a b = (answer question tag a ≡ answer question tag b) × HaveSameAnswers tag questions a b

-- one of these calls fits the tag, has the same answers as the other call, and no string of it is longer
pub record HasTwin (tag : CallTag) (questions : List Question) (calls : List (List Arg)) (other : List Arg) : Type 0 where
  pub call : List Arg
  pub is : Contains calls call
  pub fits : fits tag call ≡ true
  pub same : HaveSameAnswers tag questions call other
  pub short : IsNotLonger call other

-- a cover: for each call of the tag there is one of these
abbrev pub IsCover : CallTag → List Question → List (List Arg) → Type 0
IsCover tag questions calls = (other : List Arg) → list_all is_passable other ≡ true → fits tag other ≡ true → HasTwin tag questions calls other

-- the verdict of an answer: that of its first rule
abbrev pub verdict_of_answer : List Rule → Verdict
verdict_of_answer [] = verdict.NoRule
verdict_of_answer (rule ∷ rules) = verdict_by_rule rule

-- the first rule that holds decides
abbrev pub AnswersDecide : Type 0
AnswersDecide = (rules : List Rule) (depth : ℕ) (tag : CallTag) (args : List Arg)
    → verdict_of_answer (take (depth + 1) (filter (λ rule. rule_holds rule tag args) rules)) ≡ verdict_by rules tag args
