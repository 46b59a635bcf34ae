-- The accesses of calls.
use Rattle.std.specs.Prelude.{ℕ, Bool, false, not, ◌==◌, bit_and, Option, None, Some, List, [], ◌∷◌}
use Rattle.sb_call.specs.Arguments.{arg_at}
use Rattle.sb_call.specs.declared.arguments.Arg.{Arg}
use Rattle.sb_call.specs.declared.arguments.Arg.TheVariants as arg
use Rattle.sb_call.specs.declared.tags.CallTag.{CallTag}
use Rattle.sb_call.specs.declared.tags.CallTag.TheVariants.{FileCreate, FileOpen, KeyCreate, KeyOpen, EventOpen}
use Rattle.sb_rule.specs.Accesses.{writing_bits}
use Rattle.sb_rule.specs.declared.actions.Action.TheVariants.{Allow}
use Rattle.sb_rule.specs.declared.conditions.Test.TheVariants.{Mask}
use Rattle.sb_rule.specs.declared.policies.Rule.{Rule}

-- the parameter that is the access of a call, if it has one
abbrev pub access_param : CallTag → Option ℕ
access_param FileCreate = Some 2
access_param FileOpen = Some 1
access_param KeyCreate = Some 1
access_param KeyOpen = Some 1
access_param EventOpen = Some 1
access_param _ = None

-- the access has a bit that does more than read
abbrev pub has_writing_bits : Arg → Bool
has_writing_bits (arg.Num access) = not (bit_and access writing_bits == 0)
has_writing_bits (arg.Str units) = false

abbrev pub writes_at : Option ℕ → List Arg → Bool
writes_at None args = false
writes_at (Some param) args = has_writing_bits (arg_at args param)

-- the call has an access, and that has a bit that does more than read
abbrev pub writes : CallTag → List Arg → Bool
writes tag args = writes_at (access_param tag) args

-- a rule that holds of the calls of a tag whose access does more than read
abbrev pub access_rule : CallTag → ℕ → Rule
access_rule tag param =
    record { tag = tag; conds = (record { param = param; negated = false; test = Mask writing_bits }) ∷ []; action = Allow; line = 0 }

abbrev pub access_rules_by : CallTag → Option ℕ → List Rule
access_rules_by tag None = []
access_rules_by tag (Some param) = access_rule tag param ∷ []

-- the same in a list, which is empty if the calls have no access
abbrev pub access_rules : CallTag → List Rule
access_rules tag = access_rules_by tag (access_param tag)
