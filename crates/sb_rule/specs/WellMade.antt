-- Which policies are well made.
use Rattle.std.specs.Prelude.{ℕ, Bool, true, false, not, ◌&&◌, ◌==◌, nat_eq, nat_le, nat_lt, List, [], ◌∷◌, length}
use Rattle.std.specs.Bool.{beq}
use Rattle.std.specs.List.{list_all, list_any}
use Rattle.std.specs.Cmp.Lexicographic.{pointwise}
use Rattle.sb_base.specs.Surrogates.{is_paired}
use Rattle.sb_base.specs.Wide.{is_text_unit}
use Rattle.sb_call.specs.Arguments.{kind_at}
use Rattle.sb_call.specs.Parameters.{is_number_kind}
use Rattle.sb_call.specs.Tags.{shape_of}
use Rattle.sb_call.specs.declared.tags.CallTag.{CallTag}
use Rattle.sb_call.specs.declared.tags.CallTag.TheVariants.{FileOpen, KeyOpen, EventOpen}
use Rattle.sb_rule.specs.PatternLimits.{most_units}
use Rattle.sb_rule.specs.PatternReading.{text_of, is_pattern}
use Rattle.sb_rule.specs.declared.cells.Cell.{Cell}
use Rattle.sb_rule.specs.declared.cells.Cell.TheVariants.{Lit, One, Any}
use Rattle.sb_rule.specs.Limits.{most_policies, most_rules, most_conditions, most_numbers}
use Rattle.sb_rule.specs.declared.actions.Action.{Action}
use Rattle.sb_rule.specs.declared.actions.Action.TheVariants.{ReadOnly}
use Rattle.sb_rule.specs.declared.conditions.Cond.{Cond}
use Rattle.sb_rule.specs.declared.conditions.Test.{Test}
use Rattle.sb_rule.specs.declared.conditions.Test.TheVariants.{OneOf, Range, Mask, Equal, Like}
use Rattle.sb_rule.specs.declared.policies.Policy.{Policy}
use Rattle.sb_rule.specs.declared.policies.Rule.{Rule}

-- a string that can be written between quotes: at most 256 units, all of them text, and well-formed UTF-16
abbrev pub is_policy_text : List ℕ → Bool
is_policy_text us = nat_le (length us) most_units && list_all is_text_unit us && is_paired us

-- cells that can be written between quotes: a pattern whose text can
abbrev pub is_like_text : List Cell → Bool
is_like_text cells = is_pattern cells && is_policy_text (text_of cells)

-- a list has 1 to 16 numbers, a range is not empty, and strings and patterns can be written between quotes
abbrev pub is_sensible : Test → Bool
is_sensible (OneOf numbers) = nat_lt 0 (length numbers) && nat_le (length numbers) most_numbers
is_sensible (Range lo hi) = nat_le lo hi
is_sensible (Mask mask) = true
is_sensible (Equal text) = is_policy_text text
is_sensible (Like pattern) = is_like_text pattern

-- a test of numbers
abbrev pub is_number_test : Test → Bool
is_number_test (OneOf numbers) = true
is_number_test (Range lo hi) = true
is_number_test (Mask mask) = true
is_number_test (Equal text) = false
is_number_test (Like pattern) = false

-- the parameter is one of the call's, the test is of its kind, and it is sensible
abbrev pub is_well_formed : CallTag → Cond → Bool
is_well_formed tag cond =
    nat_lt cond.param (length (shape_of tag)) && (beq (is_number_test cond.test) (is_number_kind (kind_at tag cond.param)) && is_sensible cond.test)

-- read-only rules are for the three calls that open
abbrev pub is_for_readers : Action → CallTag → Bool
is_for_readers ReadOnly FileOpen = true
is_for_readers ReadOnly KeyOpen = true
is_for_readers ReadOnly EventOpen = true
is_for_readers ReadOnly _ = false
is_for_readers _ _ = true

-- at most 8 conditions, each well formed, and read-only for calls that open alone
abbrev pub is_well_made_rule : Rule → Bool
is_well_made_rule rule = nat_le (length rule.conds) most_conditions && is_for_readers rule.action rule.tag && list_all (is_well_formed rule.tag) rule.conds

-- at most 256 rules, each well made
abbrev pub is_well_made : Policy → Bool
is_well_made policy = nat_le (length policy.rules) most_rules && list_all is_well_made_rule policy.rules

-- a policy has this name
abbrev pub is_named : List ℕ → Policy → Bool
is_named name policy = pointwise nat_eq policy.name name

-- no two policies have one name
abbrev pub are_named_apart : List Policy → Bool
are_named_apart [] = true
are_named_apart (policy ∷ policies) = not (list_any (is_named policy.name) policies) && are_named_apart policies

-- at most 8 policies, no two of one name, each well made
abbrev pub are_well_made : List Policy → Bool
are_well_made policies = nat_le (length policies) most_policies && are_named_apart policies && list_all is_well_made policies

-- the last unit of a cell's text
abbrev pub last_unit : Cell → ℕ
last_unit (Lit u) = u
last_unit One = 63
last_unit Any = 42
