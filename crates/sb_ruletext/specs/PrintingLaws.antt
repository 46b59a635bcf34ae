-- What is true of the text of policies.
use Rattle.std.specs.Prelude.{◌≡◌, true, List, Ok}
use Rattle.std.specs.List.{list_all}
use Rattle.sb_rule.specs.WellMade.{are_well_made}
use Rattle.sb_rule.specs.declared.policies.Policy.{Policy}
use Rattle.sb_ruletext.specs.Printing.{printed, relined}
use Rattle.sb_ruletext.specs.Values.{is_policy_of_values}
use Rattle.sb_ruletext.specs.PolicyTexts.{reading}

-- the text of policies that are well made is read as these policies, in which each rule has the number of the line on which it is printed
abbrev pub PrintedPoliciesAreRead : Type 0
PrintedPoliciesAreRead = (policies : List Policy) → are_well_made policies ≡ true → list_all is_policy_of_values policies ≡ true
    → reading (printed policies) ≡ Ok (relined policies)
