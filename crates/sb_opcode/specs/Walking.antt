-- The state of a walk over opcodes, and what each opcode makes of it. Nothing of the meaning of codes depends on this:
-- that the walk gives that meaning is proved.
use Rattle.std.specs.Prelude.{◌≡◌, ℕ, ◌+◌, ◌*◌, ◌^◌, Bool, true, false, not, ◌&&◌, ◌||◌, ◌==◌, List, [], ◌∷◌, Option, None, Some, if◌then◌else◌}
use Rattle.sb_call.specs.Arguments.{arg_at}
use Rattle.sb_call.specs.declared.arguments.Arg.{Arg}
use Rattle.sb_call.specs.declared.arguments.Arg.TheVariants as arg
use Rattle.sb_opcode.specs.Groups.{is_act, is_last}
use Rattle.sb_opcode.specs.Options.{options_of, has, NEGATE, CLEAR, OR, FOLD, EXACT}
use Rattle.sb_opcode.specs.Fragments.{has_front}
use Rattle.sb_opcode.specs.Opcodes.{Opcode, Num, Text}
use Rattle.sb_opcode.specs.Unpacking.{first_known}
use Rattle.sb_opcode.specs.declared.opcodes.Seek.TheVariants.{Skip}
use Rattle.sb_rule.specs.declared.cells.Cell.{Cell}
use Rattle.sb_opcode.specs.Meaning.{after_opcode, negate_if, action_of_rule}
use Rattle.sb_rule.specs.declared.verdicts.Verdict.{Verdict}
use Rattle.sb_rule.specs.declared.verdicts.Verdict.TheVariants.{NoRule}
use Rattle.sb_opcode.specs.declared.effects.Place.{Place}
use Rattle.sb_opcode.specs.declared.effects.Place.TheVariants as place
use Rattle.sb_opcode.specs.declared.states.State.{State}
use Rattle.sb_opcode.specs.declared.states.State.TheVariants as state

-- what an argument is from a place on: a number, or what is left of a string
abbrev pub arg_from : Place → Arg
arg_from (place.Number n) = arg.Num n
arg_from (place.Units us) = arg.Str us.now

-- between groups that all hold; within a group all of whose opcodes are to hold, with what is left of the argument; within
-- one of which none holds so far; within one that is decided; within a rule that does not hold
pub data Standing : Type 0 where
  Between : Standing
  All : Arg → Standing
  One : Arg → Standing
  Decided : Bool → Standing
  Failed : Standing

abbrev pub standing_of : State → Standing
standing_of state.Between = Between
standing_of (state.All left) = All (arg_from left)
standing_of (state.One whole) = One (arg_from whole)
standing_of (state.Decided holds) = Decided holds
standing_of state.Failed = Failed

-- before the first opcode of a group
abbrev pub group_start : List Arg → Opcode → Standing
group_start args op = if has op.options OR then One (arg_at args op.param) else All (arg_at args op.param)

-- before an opcode, within its group
abbrev pub entered : List Arg → Standing → Opcode → Standing
entered args Between op = group_start args op
entered args (All left) op = All left
entered args (One whole) op = One whole
entered args (Decided holds) op = Decided holds
entered args Failed op = Failed

-- within a group of which all are to hold, by what is left after an opcode
abbrev pub all_so_far : Option Arg → Standing
all_so_far None = Decided false
all_so_far (Some left) = All left

-- within a group of which one is to hold, by what is left after an opcode
abbrev pub one_so_far : Arg → Option Arg → Standing
one_so_far whole None = One whole
one_so_far whole (Some left) = Decided true

-- after an opcode, within its group
abbrev pub looked_at : Standing → Opcode → Standing
looked_at Between op = Between
looked_at (All left) op = all_so_far (after_opcode op left)
looked_at (One whole) op = one_so_far whole (after_opcode op whole)
looked_at (Decided holds) op = Decided holds
looked_at Failed op = Failed

-- after a group that holds, or does not
abbrev pub group_end : Bool → Standing
group_end holds = if holds then Between else Failed

-- after the last opcode of a group
abbrev pub closed : Bool → Standing → Standing
closed negated Between = group_end (negate_if negated true)
closed negated (All left) = group_end (negate_if negated true)
closed negated (One whole) = group_end (negate_if negated false)
closed negated (Decided holds) = group_end (negate_if negated holds)
closed negated Failed = Failed

-- after an opcode that is no action
abbrev pub step : List Arg → Standing → Opcode → Standing
step args s op =
    if is_last op then closed (has op.options NEGATE) (looked_at (entered args s op) op) else looked_at (entered args s op) op

-- a group of one opcode: that the argument of a parameter is this number
abbrev pub number_opcode : ℕ → ℕ → Opcode
number_opcode param number = record { kind = Num number; param = param; options = options_of CLEAR }

-- packed words begin with such an opcode
abbrev pub begins_with_number : List ℕ → Bool
begins_with_number (head ∷ param ∷ first ∷ second ∷ later) = head == 2 + CLEAR * 2 ^ 8
begins_with_number _ = false

-- a group of one opcode: that the string of a parameter begins with a fragment, folded, and has no unit after it if that is to be the whole
abbrev pub front_opcode : ℕ → List Cell → Bool → Opcode
front_opcode param cells whole =
    record { kind = Text cells (Skip 0); param = param; options = options_of (if whole then CLEAR + FOLD + EXACT else CLEAR + FOLD) }

-- packed words begin with such an opcode
abbrev pub begins_with_front : List ℕ → Bool
begins_with_front (head ∷ param ∷ first ∷ second ∷ later) = head == 5 + (CLEAR + FOLD) * 2 ^ 8 || head == 5 + (CLEAR + FOLD + EXACT) * 2 ^ 8
begins_with_front _ = false

-- packed words begin with an action without options
abbrev pub begins_with_act : List ℕ → Bool
begins_with_act (head ∷ param ∷ first ∷ second ∷ later) = head == 6
begins_with_act _ = false

-- an argument is a string that begins with a fragment; no number does
abbrev pub is_front : Arg → List Cell → Bool → Bool
is_front (arg.Num value) cells whole = false
is_front (arg.Str units) cells whole = has_front cells whole units

-- an argument is this number; no string is
abbrev pub is_number : Arg → ℕ → Bool
is_number (arg.Num value) number = value == number
is_number (arg.Str units) number = false

-- after an opcode; an action ends its rule
abbrev pub moved : List Arg → Standing → Opcode → Standing
moved args s op = if is_act op then Between else step args s op

abbrev pub is_failed : Standing → Bool
is_failed Between = false
is_failed (All left) = false
is_failed (One whole) = false
is_failed (Decided holds) = false
is_failed Failed = true

-- the first action whose rule does not fail
abbrev pub walk : List Arg → Standing → List Opcode → Verdict
walk args s [] = NoRule
walk args s (op ∷ ops) = if is_act op && not (is_failed s) then action_of_rule (op ∷ []) else walk args (moved args s op) ops

-- what the first rule gives if it does not fail, and nothing of the rules after it
abbrev pub rule_walk : List Arg → Standing → List Opcode → Verdict
rule_walk args s [] = NoRule
rule_walk args s (op ∷ ops) = if is_act op then (if is_failed s then NoRule else action_of_rule (op ∷ [])) else rule_walk args (step args s op) ops

-- packed words begin with an opcode that is a group of its own, which holds or does not, and after it come these words
abbrev pub IsLone : List Arg → List ℕ → Bool → List ℕ → Type 0
IsLone args words holds later =
    (op : Opcode) × (Some (op, later) ≡ first_known words) × (is_act op ≡ false) × (step args Between op ≡ group_end holds)
