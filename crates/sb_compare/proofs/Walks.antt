-- What loops have done so far: together with what is still to come, it is the whole.
use Rattle.std.specs.Prelude.{◌≡◌, List, ◌++◌}
use Rattle.sb_call.specs.declared.tags.CallTag.{CallTag}
use Rattle.sb_rule.specs.declared.policies.Policy.{Policy}
use Rattle.sb_rule.specs.declared.verdicts.Verdict.{Verdict}
use Rattle.sb_compare.specs.Comparing.{AreCompared}
use Rattle.sb_compare.specs.Decided.{AreDecided, AreAllDecided}
use Rattle.sb_compare.specs.ShownChanges.{AreAllChanges, AreShown}
use Rattle.sb_compare.specs.declared.changes.Change.{Change}
use Rattle.sb_compare.specs.declared.changes.ShownChange.{ShownChange}
use Rattle.sb_compare.specs.declared.decided.Decided.{Decided}

-- what was put of the first verdicts, with what is told of the rest, is told of all
abbrev pub AreDecidedSoFar : CallTag → Policy → List Verdict → List Verdict → List Decided → List Decided → Type 0
AreDecidedSoFar tag policy all rest before after =
    (here : List Decided) × (after ≡ before ++ here) × ((later : List Decided) → AreDecided tag policy rest later → AreDecided tag policy all (here ++ later))

-- the same of tags
abbrev pub AreAllDecidedSoFar : Policy → List CallTag → List CallTag → List Decided → Type 0
AreAllDecidedSoFar policy all rest list = (later : List Decided) → AreAllDecided policy rest later → AreAllDecided policy all (list ++ later)

-- what was put of the first changes, with what is shown of the rest, is shown of all
abbrev pub ArePutSoFar : CallTag → Policy → Policy → List Change → List Change → List ShownChange → List ShownChange → Type 0
ArePutSoFar tag old new all rest before after =
    (here : List ShownChange) × (after ≡ before ++ here) × ((later : List ShownChange) → AreShown tag old new rest later → AreShown tag old new all (here ++ later))

-- the same of tags
abbrev pub AreAllSoFar : Policy → Policy → List CallTag → List CallTag → List ShownChange → List ShownChange → Type 0
AreAllSoFar old new all rest before after =
    (here : List ShownChange) × (after ≡ before ++ here) × ((later : List ShownChange) → AreAllChanges old new rest later → AreAllChanges old new all (here ++ later))

-- what was compared so far, with what is still to come
abbrev pub AreComparedSoFar : List Policy → List Policy → List Policy → List ShownChange → Type 0
AreComparedSoFar olds all rest shown = (later : List ShownChange) → AreCompared olds rest later → AreCompared olds all (shown ++ later)
