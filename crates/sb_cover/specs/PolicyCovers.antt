-- Covers of the calls of a tag under policies.
use Rattle.std.specs.Prelude.{◌≡◌, ◌&&◌, Bool, true, false, List, [], ◌∷◌, ◌++◌, map}
use Rattle.std.specs.List.{Contains, list_all}
use Rattle.sb_call.specs.Arguments.{fits}
use Rattle.sb_call.specs.declared.arguments.Arg.{Arg}
use Rattle.sb_call.specs.declared.tags.CallTag.{CallTag}
use Rattle.sb_cover.specs.CallAccesses.{access_rules, writes}
use Rattle.sb_cover.specs.Choices.{is_passable}
use Rattle.sb_cover.specs.Lengths.{is_shorter}
use Rattle.sb_cover.specs.declared.questions.Question.{Question}
use Rattle.sb_rule.specs.Verdicts.{verdict_of}
use Rattle.sb_rule.specs.declared.policies.Policy.{Policy}
use Rattle.sb_rule.specs.declared.policies.Rule.{Rule}
use Rattle.sb_rule.specs.declared.verdicts.Verdict.{Verdict}

-- the calls of a tag: the argument lists that fit it, whose numbers have 64 bits
abbrev pub is_call : CallTag → List Arg → Bool
is_call tag args = list_all is_passable args && fits tag args

-- the verdicts of policies on a call
abbrev pub verdicts_of : CallTag → List Policy → List Arg → List Verdict
verdicts_of tag policies args = map (λ policy. verdict_of policy tag args) policies

-- one of these calls has the same verdict under each of the policies as the other call, does more than read exactly if that does, and is not longer
pub record HasTwinUnder (tag : CallTag) (policies : List Policy) (calls : List (List Arg)) (other : List Arg) : Type 0 where
  pub call : List Arg
  pub is : Contains calls call
  pub fits : fits tag call ≡ true
  pub verdicts : verdicts_of tag policies call ≡ verdicts_of tag policies other
  pub access : writes tag call ≡ writes tag other
  pub short : is_shorter other call ≡ false

-- a cover under policies: for each call of the tag there is one of these
abbrev pub IsCoverUnder : CallTag → List Policy → List (List Arg) → Type 0
IsCoverUnder tag policies calls = (other : List Arg) → is_call tag other ≡ true → HasTwinUnder tag policies calls other

-- which rule decides
abbrev pub question_of : List Rule → Question
question_of rules = record { rules = rules; depth = 1; is_cut = false }

-- which rule of each policy decides, and whether the call does more than read
abbrev pub questions_of : CallTag → List Policy → List Question
questions_of tag policies = map (λ policy. question_of policy.rules) policies ++ question_of (access_rules tag) ∷ []
