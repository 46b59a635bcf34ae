-- The code of a policy: for each call the codes of its rules in order.
use Rattle.std.specs.Prelude.{ℕ, ◌-◌, Bool, true, false, bit_or, List, [], ◌∷◌, ◌++◌, drop, map, filter, slice_index_or, if◌then◌else◌}
use Rattle.std.specs.List.{flat_map, prefix_len, slice_split}
use Rattle.sb_call.specs.CallWords.{every_tag}
use Rattle.sb_call.specs.Tags.{number_of}
use Rattle.sb_call.specs.declared.arguments.Arg.{Arg}
use Rattle.sb_statements.specs.declared.scripts.TargetScript.{TargetScript}
use Rattle.sb_call.specs.declared.tags.CallTag.{CallTag}
use Rattle.sb_rule.specs.Chunks.{is_any}
use Rattle.sb_rule.specs.declared.cells.Cell.{Cell}
use Rattle.sb_rule.specs.declared.cells.Cell.TheVariants.{Lit, One, Any}
use Rattle.sb_rule.specs.Verdicts.{policy_at}
use Rattle.sb_rule.specs.declared.conditions.Cond.{Cond}
use Rattle.sb_rule.specs.declared.conditions.Test.{Test}
use Rattle.sb_rule.specs.declared.conditions.Test.TheVariants as test
use Rattle.sb_rule.specs.declared.policies.Policy.{Policy}
use Rattle.sb_rule.specs.Verdicts.{is_for}
use Rattle.sb_rule.specs.declared.policies.Rule.{Rule}
use Rattle.sb_rule.specs.declared.verdicts.Verdict.{Verdict}
use Rattle.sb_opcode.specs.Options.{options_of, NEGATE, CLEAR, OR, FOLD, EXACT}
use Rattle.sb_opcode.specs.Opcodes.{Opcode}
use Rattle.sb_opcode.specs.Opcodes.{OpKind}
use Rattle.sb_opcode.specs.Opcodes as op
use Rattle.sb_opcode.specs.declared.opcodes.Seek.TheVariants.{Skip, Forward, ToEnd}
use Rattle.sb_opcode.specs.Meaning.{meaning}

-- an opcode on a parameter, with these options
abbrev pub opcode : ℕ → ℕ → OpKind → Opcode
opcode param bits kind = record { kind = kind; param = param; options = options_of bits }

-- one number as it is, and several as a choice
abbrev pub numbers_code : ℕ → List ℕ → List Opcode
numbers_code param [] = []
numbers_code param (n ∷ []) = opcode param 0 (op.Num n) ∷ []
numbers_code param (n ∷ m ∷ ns) = map (λ k. opcode param OR (op.Num k)) (n ∷ m ∷ ns)

-- a `?`
abbrev pub is_one : Cell → Bool
is_one One = true
is_one Any = false
is_one (Lit u) = false

-- cells at the position: the `?` that they begin with are skipped, and the others are the fragment
abbrev pub here : ℕ → ℕ → List Cell → Opcode
here param bits cells = opcode param bits (op.Text (drop (prefix_len is_one cells) cells) (Skip (prefix_len is_one cells)))

-- the cells before the first `*`, if there are any
abbrev pub first_code : ℕ → List Cell → List Opcode
first_code param [] = []
first_code param (cell ∷ cells) = here param FOLD (cell ∷ cells) ∷ []

-- the cells after the last `*`, if there are any
abbrev pub last_code : ℕ → List Cell → List Opcode
last_code param [] = []
last_code param (cell ∷ cells) = opcode param FOLD (op.Text (cell ∷ cells) ToEnd) ∷ []

-- the runs of cells after the first `*`
abbrev pub later_code : ℕ → List (List Cell) → List Opcode
later_code param [] = []
later_code param (run ∷ []) = last_code param run
later_code param (run ∷ next ∷ runs) = opcode param FOLD (op.Text run Forward) ∷ later_code param (next ∷ runs)

-- opcodes, and True if there are none
abbrev pub or_true : List Opcode → List Opcode
or_true [] = opcode 0 0 op.True ∷ []
or_true (first ∷ later) = first ∷ later

-- the runs of cells between the `*` of a pattern; one without `*` is a single run
abbrev pub runs_code : ℕ → List (List Cell) → List Opcode
runs_code param [] = []
runs_code param (run ∷ []) = here param (bit_or FOLD EXACT) run ∷ []
runs_code param (run ∷ next ∷ runs) = or_true (first_code param run ++ later_code param (next ∷ runs))

-- the opcodes of a test
abbrev pub test_code : ℕ → Test → List Opcode
test_code param (test.OneOf numbers) = numbers_code param numbers
test_code param (test.Range lo hi) = opcode param 0 (op.Range lo hi) ∷ []
test_code param (test.Mask mask) = opcode param 0 (op.Mask mask) ∷ []
test_code param (test.Equal text) = opcode param (bit_or FOLD EXACT) (op.Text (map Lit text) (Skip 0)) ∷ []
test_code param (test.Like cells) = runs_code param (slice_split is_any cells)

-- an opcode with more options
abbrev pub with_options : ℕ → Opcode → Opcode
with_options bits op = record op { options = options_of (bit_or op.options.0 bits) }

-- the options of the last opcode of a group
abbrev pub end_bits : Bool → ℕ
end_bits negated = if negated then bit_or CLEAR NEGATE else CLEAR

-- a group: its last opcode has CLEAR, and NEGATE if the condition is negated
abbrev pub closed : Bool → List Opcode → List Opcode
closed negated [] = []
closed negated (op ∷ []) = with_options (end_bits negated) op ∷ []
closed negated (op ∷ next ∷ ops) = op ∷ closed negated (next ∷ ops)

-- the group of a condition
abbrev pub cond_code : Cond → List Opcode
cond_code cond = closed cond.negated (test_code cond.param cond.test)

-- the code of a rule: a group for each condition, and the action
abbrev pub rule_code : Rule → List Opcode
rule_code rule = flat_map cond_code rule.conds ++ opcode 0 0 (op.Act rule.action rule.line) ∷ []

-- the code of a call; a call without rules has none
abbrev pub code_of : List Rule → CallTag → List Opcode
code_of rules tag = flat_map rule_code (filter (is_for tag) rules)

-- a policy as code: its name, and the code of each call by its number, empty if the call has no rules
pub record Compiled : Type 0 where
  pub name : List ℕ
  pub codes : List (List Opcode)

-- the program of a policy
abbrev pub program_of : Policy → Compiled
program_of policy = record { name = policy.name; codes = map (code_of policy.rules) every_tag }

-- the code of a call in a program
abbrev pub code_in : Compiled → CallTag → List Opcode
code_in program tag = slice_index_or program.codes (number_of tag - 1) []

-- what a program says of a call
abbrev pub program_verdict : Compiled → CallTag → List Arg → Verdict
program_verdict program tag args = meaning (code_in program tag) args

-- the policies of targets that name them by their numbers
abbrev pub policies_of_targets : List Policy → List TargetScript → List Policy
policies_of_targets policies targets = map (λ target. policy_at policies target.policy) targets
