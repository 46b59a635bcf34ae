-- Which calls a verdict decides.
use Rattle.std.specs.Prelude.{◌≡◌, ◌++◌, ◌∷◌, false, true, List, [], Option, None, Some, if◌then◌else◌}
use Rattle.std.specs.List.{list_all}
use Rattle.sb_call.specs.Arguments.{fits}
use Rattle.sb_call.specs.declared.arguments.Arg.{Arg}
use Rattle.sb_call.specs.declared.tags.CallTag.{CallTag}
use Rattle.sb_cover.specs.Choices.{is_shown_arg}
use Rattle.sb_cover.specs.Lengths.{is_shorter}
use Rattle.sb_cover.specs.PolicyCovers.{is_call}
use Rattle.sb_rule.specs.Verdicts.{verdict_of}
use Rattle.sb_rule.specs.declared.policies.Policy.{Policy}
use Rattle.sb_rule.specs.declared.verdicts.Verdict.{Verdict}
use Rattle.sb_compare.specs.Candidates.{verdicts}
use Rattle.sb_compare.specs.declared.decided.Decided.{Decided}

-- no call of the tag has this verdict
abbrev pub IsForNone : CallTag → Policy → Verdict → Type 0
IsForNone tag policy verdict = (args : List Arg) → is_call tag args ≡ true → verdict_of policy tag args ≡ verdict → ⊥

-- the call has this verdict, a script can have it, and no call with this verdict is shorter
pub record IsForCall (tag : CallTag) (policy : Policy) (verdict : Verdict) (call : List Arg) : Type 0 where
  pub fits : fits tag call ≡ true
  pub has : verdict_of policy tag call ≡ verdict
  pub written : list_all is_shown_arg call ≡ true
  pub shortest : (other : List Arg) → is_call tag other ≡ true → verdict_of policy tag other ≡ verdict → is_shorter other call ≡ false

-- a call is told of a verdict exactly if some call has it
abbrev pub IsToldOf : CallTag → Policy → Verdict → Option (List Arg) → Type 0
IsToldOf tag policy verdict None = IsForNone tag policy verdict
IsToldOf tag policy verdict (Some call) = IsForCall tag policy verdict call

-- each verdict with a call that it decides, if there is one, in order
abbrev pub AreDecided : CallTag → Policy → List Verdict → List Decided → Type 0
AreDecided tag policy [] list = list ≡ []
AreDecided tag policy (verdict ∷ verdicts) list =
    (call : Option (List Arg)) × (rest : List Decided) × (list ≡ (record { tag = tag; verdict = verdict; call = call }) ∷ rest)
    × IsToldOf tag policy verdict call × AreDecided tag policy verdicts rest

-- the same of the calls of each tag, tag by tag
abbrev pub AreAllDecided : Policy → List CallTag → List Decided → Type 0
AreAllDecided policy [] list = list ≡ []
AreAllDecided policy (tag ∷ tags) list =
    (here : List Decided) × (later : List Decided) × (list ≡ here ++ later) × AreDecided tag policy (verdicts tag policy.rules) here × AreAllDecided policy tags later

-- a verdict is put, with a call if there is one
abbrev pub IsDecidedPut : CallTag → Policy → Verdict → List Decided → List Decided → Type 0
IsDecidedPut tag policy verdict before after =
    (call : Option (List Arg)) × (after ≡ before ++ (record { tag = tag; verdict = verdict; call = call }) ∷ []) × IsToldOf tag policy verdict call

-- verdicts are put
abbrev pub AreDecidedPut : CallTag → Policy → List Verdict → List Decided → List Decided → Type 0
AreDecidedPut tag policy verdicts before after = (here : List Decided) × (after ≡ before ++ here) × AreDecided tag policy verdicts here

-- the shorter one of two calls, as far as there are any
abbrev pub shorter_of : Option (List Arg) → Option (List Arg) → Option (List Arg)
shorter_of None b = b
shorter_of (Some a) None = Some a
shorter_of (Some a) (Some b) = if is_shorter b a then Some b else Some a
