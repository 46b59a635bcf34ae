-- What values of the program are seen as: numbers of 64 bits and short names.
use Rattle.std.specs.Prelude.{◌&&◌, Bool, true}
use Rattle.std.specs.List.{list_all}
use Rattle.sb_call.specs.ShortNames.{is_short_name}
use Rattle.sb_rule.specs.declared.conditions.Test.{Test}
use Rattle.sb_rule.specs.declared.conditions.Test.TheVariants.{OneOf, Range, Mask, Equal, Like}
use Rattle.sb_rule.specs.declared.policies.Policy.{Policy}
use Rattle.sb_rule.specs.declared.policies.Rule.{Rule}
use Rattle.sb_base.specs.Numbers.{is_word64}

-- the numbers of a test have 64 bits
abbrev pub is_test_of_values : Test → Bool
is_test_of_values (OneOf numbers) = list_all is_word64 numbers
is_test_of_values (Range lo hi) = is_word64 lo && is_word64 hi
is_test_of_values (Mask mask) = is_word64 mask
is_test_of_values (Equal text) = true
is_test_of_values (Like pattern) = true

-- so do those of a rule
abbrev pub is_rule_of_values : Rule → Bool
is_rule_of_values rule = list_all (λ cond. is_test_of_values cond.test) rule.conds

-- and those of a policy, whose name is a short name: what each policy of the program is seen as
abbrev pub is_policy_of_values : Policy → Bool
is_policy_of_values policy = is_short_name policy.name && list_all is_rule_of_values policy.rules
