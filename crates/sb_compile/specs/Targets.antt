-- The policies of targets.
use Rattle.std.specs.Prelude.{◌≡◌, ℕ, true, List, [], map}
use Rattle.std.specs.List.{list_all}
use Rattle.sb_rule.specs.Verdicts.{policy_at}
use Rattle.sb_rule.specs.WellMade.{is_well_made}
use Rattle.sb_rule.specs.declared.policies.Policy.{Policy}

-- a policy without rules
abbrev pub nothing : Policy
nothing = record { name = []; rules = [] }

-- the policies of targets that name them by these numbers
abbrev pub policies_in : List Policy → List ℕ → List Policy
policies_in policies numbers = map (λ number. policy_at policies number) numbers

-- well-made policies, one for each target
pub record TargetPolicies : Type 0 where
  pub policies : List Policy
  pub well_made : list_all is_well_made policies ≡ true
