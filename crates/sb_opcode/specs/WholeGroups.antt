-- What verified codes are: whole rules of whole groups.
use Rattle.std.specs.Prelude.{◌≡◌, ◌↔◌, Bool, true, false, not, ◌&&◌, ◌==◌, List, [], ◌∷◌, None}
use Rattle.std.specs.Bool.{beq}
use Rattle.std.specs.List.{flat_map, list_all}
use Rattle.sb_call.specs.declared.tags.CallTag.{CallTag}
use Rattle.sb_opcode.specs.Faults.{fault_of, ends_with_act, is_unfit, is_misplaced}
use Rattle.sb_opcode.specs.Groups.{cut_after, rules_of, groups_of, is_act, is_last}
use Rattle.sb_opcode.specs.Options.{has, OR, has_options}
use Rattle.sb_opcode.specs.Opcodes.{Opcode}

-- CLEAR is on the last opcode, and on no other
abbrev pub ends_with_clear : List Opcode → Bool
ends_with_clear [] = false
ends_with_clear (op ∷ []) = is_last op
ends_with_clear (op ∷ next ∷ ops) = not (is_last op) && ends_with_clear (next ∷ ops)

-- two opcodes look at one parameter, and both have OR or neither has
abbrev pub is_alike : Opcode → Opcode → Bool
is_alike op other = op.param == other.param && beq (has op.options OR) (has other.options OR)

-- all look at one parameter, and all have OR or none has
abbrev pub are_alike : List Opcode → Bool
are_alike [] = true
are_alike (op ∷ ops) = list_all (is_alike op) ops

-- the options fit the opcode
abbrev pub is_fit : Opcode → Bool
is_fit op = not (is_unfit op)

-- a group that is closed, of opcodes that are alike and have fit options
abbrev pub is_whole_group : List Opcode → Bool
is_whole_group group = ends_with_clear group && are_alike group && list_all is_fit group

-- the last opcode is an action without options, and no other is an action
abbrev pub acts_at_end : List Opcode → Bool
acts_at_end [] = false
acts_at_end (op ∷ []) = is_act op && not (has_options op.options)
acts_at_end (op ∷ next ∷ ops) = not (is_act op) && acts_at_end (next ∷ ops)

-- a rule that ends with its action and has whole groups
abbrev pub is_whole_rule : List Opcode → Bool
is_whole_rule rule = acts_at_end rule && list_all is_whole_group (groups_of rule)

-- the parts of a list that was cut are that list
abbrev pub PartsAreTheList : Type 0
PartsAreTheList = (test : Opcode → Bool) (ops : List Opcode) → flat_map (λ part. part) (cut_after test ops) ≡ ops

-- a code has no fault exactly if it ends with an action, its rules are whole, and each of its opcodes suits its parameter
abbrev pub FaultlessCodesAreWhole : Type 0
FaultlessCodesAreWhole = (tag : CallTag) (ops : List Opcode)
    → (fault_of tag ops ≡ None)
    ↔ ((ends_with_act ops ≡ true) × (list_all is_whole_rule (rules_of ops) ≡ true) × (list_all (λ op. not (is_misplaced tag op)) ops ≡ true))
