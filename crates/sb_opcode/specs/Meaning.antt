-- What a code says of a call: its opcodes are cut into rules and groups, and each group is judged from its own beginning.
use Rattle.std.specs.Prelude.{ℕ, Bool, true, false, not, ◌&&◌, ◌==◌, nat_le, bit_and, List, [], ◌∷◌, Option, None, Some, option_map, option_and_then, is_some, if◌then◌else◌}
use Rattle.std.specs.List.{list_all, list_any}
use Rattle.sb_call.specs.Arguments.{arg_at}
use Rattle.sb_call.specs.declared.arguments.Arg.{Arg}
use Rattle.sb_call.specs.declared.arguments.Arg.TheVariants as arg
use Rattle.sb_rule.specs.declared.cells.Cell.{Cell}
use Rattle.sb_opcode.specs.Groups.{rules_of, groups_of}
use Rattle.sb_opcode.specs.Options.{has, NEGATE, OR, FOLD, EXACT}
use Rattle.sb_opcode.specs.Opcodes.{Opcode}
use Rattle.sb_opcode.specs.Opcodes.{OpKind}
use Rattle.sb_opcode.specs.Opcodes.{False, True, Num, Range, Mask, Text, Act}
use Rattle.sb_opcode.specs.declared.opcodes.Seek.{Seek}
use Rattle.sb_opcode.specs.declared.options.Options.{Options}
use Rattle.sb_opcode.specs.Fragments.{after_seek, at_end}
use Rattle.sb_rule.specs.declared.verdicts.Verdict.{Verdict}
use Rattle.sb_rule.specs.declared.verdicts.Verdict.TheVariants.{Rule, NoRule}

-- an opcode holds of a number; none of strings does
abbrev pub number_holds : OpKind → ℕ → Bool
number_holds False value = false
number_holds True value = true
number_holds (Num n) value = value == n
number_holds (Range lo hi) value = nat_le lo value && nat_le value hi
number_holds (Mask mask) value = not (bit_and value mask == 0)
number_holds (Text cells seek) value = false
number_holds (Act action line) value = false

-- what a fragment leaves of a string that has it where it is sought
abbrev pub after_text : List Cell → Seek → Options → List ℕ → Option (List ℕ)
after_text cells seek options units =
    if has options EXACT then at_end (after_seek seek (has options FOLD) cells units) else after_seek seek (has options FOLD) cells units

-- what an opcode leaves of a string of which it holds; none of numbers does
abbrev pub units_left : OpKind → Options → List ℕ → Option (List ℕ)
units_left False options units = None
units_left True options units = Some units
units_left (Num n) options units = None
units_left (Range lo hi) options units = None
units_left (Mask mask) options units = None
units_left (Text cells seek) options units = after_text cells seek options units
units_left (Act action line) options units = None

-- what an opcode leaves of an argument of which it holds: the number, or what is left of the string
abbrev pub after_opcode : Opcode → Arg → Option Arg
after_opcode op (arg.Num value) = if number_holds op.kind value then Some (arg.Num value) else None
after_opcode op (arg.Str units) = option_map arg.Str (units_left op.kind op.options units)

-- what is left after opcodes one after the other, where each holds of what the one before it left
abbrev pub after_all : List Opcode → Arg → Option Arg
after_all [] arg = Some arg
after_all (op ∷ ops) arg = option_and_then (after_all ops) (after_opcode op arg)

-- all opcodes of a group hold one after the other, in a string from its beginning on
abbrev pub all_hold : List Opcode → Arg → Bool
all_hold group arg = is_some (after_all group arg)

-- one of the opcodes of a group holds
abbrev pub one_holds : List Opcode → Arg → Bool
one_holds group arg = list_any (λ op. is_some (after_opcode op arg)) group

-- the last opcode has NEGATE
abbrev pub is_negated : List Opcode → Bool
is_negated [] = false
is_negated (op ∷ []) = has op.options NEGATE
is_negated (op ∷ next ∷ ops) = is_negated (next ∷ ops)

-- a truth, or its opposite
abbrev pub negate_if : Bool → Bool → Bool
negate_if negated holds = if negated then not holds else holds

-- the group looks at the argument of its parameter: with OR one of its opcodes is to hold, without it all are, one after
-- the other; NEGATE turns that round
abbrev pub group_holds : List Arg → List Opcode → Bool
group_holds args [] = true
group_holds args (op ∷ ops) =
    negate_if (is_negated (op ∷ ops))
    (if has op.options OR then one_holds (op ∷ ops) (arg_at args op.param) else all_hold (op ∷ ops) (arg_at args op.param))

-- a rule holds if all its groups do
abbrev pub rule_holds : List Arg → List Opcode → Bool
rule_holds args rule = list_all (group_holds args) (groups_of rule)

-- the verdict of a rule that holds: the line and the action of its action opcode
abbrev pub action_of_rule : List Opcode → Verdict
action_of_rule [] = NoRule
action_of_rule (op ∷ ops) = elim op.kind [
  | Act action line ↦ Rule line action
  | _ ↦ action_of_rule ops
]

-- the verdict of the first rule that holds
abbrev pub judged_by : List Arg → List (List Opcode) → Verdict
judged_by args [] = NoRule
judged_by args (rule ∷ rules) = if rule_holds args rule then action_of_rule rule else judged_by args rules

-- what a code says of a call: the verdict of its first rule that holds
abbrev pub meaning : List Opcode → List Arg → Verdict
meaning ops args = judged_by args (rules_of ops)

-- what one of the rules of a code says: its verdict, if it holds
abbrev pub rule_verdict : List Arg → List Opcode → Verdict
rule_verdict args rule = if rule_holds args rule then action_of_rule rule else NoRule
