-- How large policies may be.
use Rattle.std.specs.Prelude.{ℕ}

-- the most policies
abbrev pub most_policies : ℕ
most_policies = 8

-- the most rules of a policy
abbrev pub most_rules : ℕ
most_rules = 256

-- the most conditions of a rule
abbrev pub most_conditions : ℕ
most_conditions = 8

-- the most numbers of a test
abbrev pub most_numbers : ℕ
most_numbers = 16
