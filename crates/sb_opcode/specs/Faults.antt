-- What is wrong with a code for a call.
use Rattle.std.specs.Prelude.{ℕ, Bool, true, false, not, ◌&&◌, ◌||◌, ◌==◌, nat_lt, List, [], ◌∷◌, length, Option, None, Some, option_map, position, if◌then◌else◌}
use Rattle.std.specs.Bool.{beq}
use Rattle.std.specs.Option.{option_or}
use Rattle.sb_call.specs.Arguments.{kind_at}
use Rattle.sb_call.specs.Tags.{shape_of}
use Rattle.sb_call.specs.declared.tags.CallTag.{CallTag}
use Rattle.sb_call.specs.Parameters.{is_number_kind}
use Rattle.sb_opcode.specs.Groups.{is_act, is_last}
use Rattle.sb_opcode.specs.Options.{has, NEGATE, CLEAR, OR, FOLD, EXACT, has_options}
use Rattle.sb_opcode.specs.Opcodes.{Opcode}
use Rattle.sb_opcode.specs.Opcodes.{OpKind}
use Rattle.sb_opcode.specs.Opcodes.{False, True, Num, Range, Mask, Text, Act}
use Rattle.sb_opcode.specs.declared.faults.CodeFault.{CodeFault}
use Rattle.sb_opcode.specs.declared.faults.CodeFault.TheVariants.{NoAction, OpenGroup, BadParam}

-- the last opcode is an action
abbrev pub ends_with_act : List Opcode → Bool
ends_with_act [] = false
ends_with_act (op ∷ []) = is_act op
ends_with_act (op ∷ next ∷ ops) = ends_with_act (next ∷ ops)

abbrev pub is_text_kind : OpKind → Bool
is_text_kind (Text cells seek) = true
is_text_kind False = false
is_text_kind True = false
is_text_kind (Num n) = false
is_text_kind (Range lo hi) = false
is_text_kind (Mask m) = false
is_text_kind (Act action line) = false

-- the group of an opcode goes on after it: it is no action and has no CLEAR
abbrev pub goes_on : Option Opcode → Bool
goes_on None = false
goes_on (Some op) = not (is_act op) && not (is_last op)

-- the opcode before differs in parameter or in OR
abbrev pub differs : Option Opcode → Opcode → Bool
differs None op = false
differs (Some before) op = not (before.param == op.param) || not (beq (has before.options OR) (has op.options OR))

-- the options are none that such an opcode may have
abbrev pub is_unfit : Opcode → Bool
is_unfit op =
    (has op.options NEGATE && not (has op.options CLEAR)) || (is_text_kind op.kind && has op.options OR) || (is_act op && has_options op.options)
    || (not (is_text_kind op.kind) && (has op.options FOLD || has op.options EXACT))

-- an opcode, with the one before it if there is one, leaves a group open: an action within a group, an opcode that
-- differs from the one before it in the group, or options that do not fit
abbrev pub is_open : Option Opcode × Opcode → Bool
is_open pair = (goes_on pair.0 && (is_act pair.1 || differs pair.0 pair.1)) || is_unfit pair.1

-- each opcode with the one before it, where the first has this one before it
abbrev pub with_before : Option Opcode → List Opcode → List (Option Opcode × Opcode)
with_before before [] = []
with_before before (op ∷ ops) = (before, op) ∷ with_before (Some op) ops

-- the parameter is one of the call's, and it is a number, or a string
abbrev pub is_number_at : CallTag → ℕ → Bool
is_number_at tag param = nat_lt param (length (shape_of tag)) && is_number_kind (kind_at tag param)

abbrev pub is_string_at : CallTag → ℕ → Bool
is_string_at tag param = nat_lt param (length (shape_of tag)) && not (is_number_kind (kind_at tag param))

-- what an opcode does suits a parameter
abbrev pub suits : CallTag → OpKind → ℕ → Bool
suits tag (Num n) param = is_number_at tag param
suits tag (Range lo hi) param = is_number_at tag param
suits tag (Mask m) param = is_number_at tag param
suits tag (Text cells seek) param = is_string_at tag param
suits tag False param = true
suits tag True param = true
suits tag (Act action line) param = true

-- an opcode looks at what is no parameter of the call, or at one of the other kind
abbrev pub is_misplaced : CallTag → Opcode → Bool
is_misplaced tag op = not (suits tag op.kind op.param)

-- the first fault of a code for a call, by the order of the faults and then by the place
abbrev pub fault_of : CallTag → List Opcode → Option CodeFault
fault_of tag ops =
    if not (ends_with_act ops) then Some NoAction
    else option_or (option_map OpenGroup (position is_open (with_before None ops)))
    (option_map BadParam (position (is_misplaced tag) ops))
