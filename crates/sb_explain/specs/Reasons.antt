-- The reasons of a verdict: what each rule for the call says of it, up to the one that decides.
use Rattle.std.specs.Prelude.{List, [], ◌∷◌, Option, None, Some, if◌then◌else◌}
use Rattle.sb_call.specs.declared.arguments.Arg.{Arg}
use Rattle.sb_call.specs.declared.tags.CallTag.{CallTag}
use Rattle.sb_explain.specs.declared.reasons.Reason.TheVariants as told
use Rattle.sb_explain.specs.declared.reasons.Reason as declared
use Rattle.sb_rule.specs.Verdicts.{cond_holds, is_for}
use Rattle.sb_rule.specs.declared.conditions.Cond.{Cond}
use Rattle.sb_rule.specs.declared.policies.Rule.{Rule}

-- a rule for the call holds, or this is its first condition that does not
pub data Reason : Type 0 where
  Holds : Rule → Reason
  Fails : Rule → Cond → Reason

-- a reason that the program gives
abbrev pub meant : declared.Reason → Reason
meant (told.Holds rule) = Holds rule.now
meant (told.Fails rule cond) = Fails rule.now cond.now

-- the first of these conditions that does not hold
abbrev pub first_failing : List Cond → List Arg → Option Cond
first_failing [] args = None
first_failing (cond ∷ conds) args = if cond_holds cond args then first_failing conds args else Some cond

-- a rule without a condition that fails holds
abbrev pub reason_by : Rule → Option Cond → Reason
reason_by rule None = Holds rule
reason_by rule (Some cond) = Fails rule cond

-- what a rule for a call with these arguments says of it
abbrev pub reason_of : Rule → List Arg → Reason
reason_of rule args = reason_by rule (first_failing rule.conds args)

-- a reason, and after it those of the later rules, unless it decides
abbrev pub followed : Reason → List Reason → List Reason
followed (Holds rule) later = Holds rule ∷ []
followed (Fails rule cond) later = Fails rule cond ∷ later

-- what each of these rules that is for the call says of it, in order, up to the one that holds
abbrev pub reasons : List Rule → CallTag → List Arg → List Reason
reasons [] tag args = []
reasons (rule ∷ rules) tag args =
    if is_for tag rule then followed (reason_of rule args) (reasons rules tag args) else reasons rules tag args
