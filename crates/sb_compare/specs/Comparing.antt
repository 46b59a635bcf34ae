-- What `compare` tells of two lists of policies.
use Rattle.std.specs.Prelude.{◌≡◌, ℕ, List, [], ◌∷◌, ◌++◌, Option, None, Some, if◌then◌else◌}
use Rattle.sb_call.specs.CallWords.{every_tag}
use Rattle.sb_rule.specs.WellMade.{is_named}
use Rattle.sb_rule.specs.declared.policies.Policy.{Policy}
use Rattle.sb_compare.specs.ShownChanges.{AreAllChanges}
use Rattle.sb_compare.specs.declared.changes.ShownChange.{ShownChange}

-- the first policy of a name
abbrev pub policy_named : List ℕ → List Policy → Option Policy
policy_named name [] = None
policy_named name (policy ∷ policies) = if is_named name policy then Some policy else policy_named name policies

-- the changes of a policy from the old one of its name, if there is one
abbrev pub AreChangesFrom : Option Policy → Policy → List ShownChange → Type 0
AreChangesFrom None new here = here ≡ []
AreChangesFrom (Some old) new here = AreAllChanges old new every_tag here

-- the changes of each new policy of which there is an old one, in the order of the new ones
abbrev pub AreCompared : List Policy → List Policy → List ShownChange → Type 0
AreCompared olds [] shown = shown ≡ []
AreCompared olds (new ∷ news) shown =
    (here : List ShownChange) × (later : List ShownChange) × (shown ≡ here ++ later) × AreChangesFrom (policy_named new.name olds) new here × AreCompared olds news later
