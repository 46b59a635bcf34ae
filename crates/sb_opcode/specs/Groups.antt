-- The rules of a code, and the groups of a rule.
use Rattle.std.specs.Prelude.{Bool, true, false, not, List, [], ◌∷◌, if◌then◌else◌, filter}
use Rattle.std.specs.List.{onto_first}
use Rattle.sb_opcode.specs.Options.{has, CLEAR}
use Rattle.sb_opcode.specs.Opcodes.{Opcode}
use Rattle.sb_opcode.specs.Opcodes.{OpKind}
use Rattle.sb_opcode.specs.Opcodes.{False, True, Num, Range, Mask, Text, Act}

abbrev pub is_act_kind : OpKind → Bool
is_act_kind (Act action line) = true
is_act_kind False = false
is_act_kind True = false
is_act_kind (Num n) = false
is_act_kind (Range lo hi) = false
is_act_kind (Mask m) = false
is_act_kind (Text cells seek) = false

-- the opcode is an action
abbrev pub is_act : Opcode → Bool
is_act op = is_act_kind op.kind

-- the opcode has CLEAR
abbrev pub is_last : Opcode → Bool
is_last op = has op.options CLEAR

-- a list cut after each opcode that passes the test; what follows the last of them is a part too
abbrev pub cut_after : (Opcode → Bool) → List Opcode → List (List Opcode)
cut_after test [] = []
cut_after test (op ∷ ops) = if test op then (op ∷ []) ∷ cut_after test ops else onto_first op (cut_after test ops)

-- the rules of a code, each with its action at its end
abbrev pub rules_of : List Opcode → List (List Opcode)
rules_of ops = cut_after is_act ops

-- the groups of a rule: what comes before its action, cut after each CLEAR
abbrev pub groups_of : List Opcode → List (List Opcode)
groups_of rule = cut_after is_last (filter (λ op. not (is_act op)) rule)

-- what follows the first action, and nothing if there is none
abbrev pub after_action : List Opcode → List Opcode
after_action [] = []
after_action (op ∷ ops) = if is_act op then ops else after_action ops
