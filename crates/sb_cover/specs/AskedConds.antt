-- Which conditions hold of an argument.
use Rattle.std.specs.Prelude.{◌≡◌, ◌&&◌, ◌==◌, ℕ, Bool, true, false, not, bit_and, List, [], map, slice_index_or, if◌then◌else◌}
use Rattle.sb_call.specs.declared.arguments.Arg.{Arg}
use Rattle.sb_call.specs.declared.arguments.Arg.TheVariants as arg
use Rattle.sb_cover.specs.declared.asked_conds.AskedCond.{AskedCond}
use Rattle.sb_rule.specs.Accesses.{read_only_bits}
use Rattle.sb_rule.specs.Matching.{matches}
use Rattle.sb_rule.specs.Verdicts.{test_holds}
use Rattle.sb_rule.specs.declared.cells.Cell.{Cell}
use Rattle.sb_rule.specs.declared.cells.Cell.TheVariants.{Lit}
use Rattle.sb_rule.specs.declared.conditions.Cond.{Cond}
use Rattle.sb_rule.specs.declared.conditions.Test.{Test}
use Rattle.sb_rule.specs.declared.conditions.Test.TheVariants.{OneOf, Range, Mask, Equal, Like}

-- a negated condition holds if its test does not
abbrev pub by_negation : Bool → Bool → Bool
by_negation negated holds = if negated then not holds else holds

-- the access is the second argument; cut, it has only the bits that only read
abbrev pub seen_number : Bool → ℕ → ℕ → ℕ
seen_number is_cut param number = if is_cut && param == 1 then bit_and number read_only_bits else number

-- an argument as a condition on its parameter sees it
abbrev pub seen : Bool → ℕ → Arg → Arg
seen is_cut param (arg.Num number) = arg.Num (seen_number is_cut param number)
seen is_cut param (arg.Str units) = arg.Str units

-- the condition holds of the argument of its parameter
abbrev pub is_met : AskedCond → Arg → Bool
is_met asked value = by_negation asked.cond.negated (test_holds asked.cond.test (seen asked.is_cut asked.cond.param value))

-- a condition that has no number
abbrev pub no_cond : AskedCond
no_cond = record { cond = record { param = 0; negated = false; test = OneOf [] }; is_cut = false }

-- the condition of a number
abbrev pub cond_at : List AskedCond → ℕ → AskedCond
cond_at conds n = slice_index_or conds n no_cond

-- which conditions hold of an argument
abbrev pub met : List AskedCond → Arg → ℕ → Bool
met conds value n = is_met (cond_at conds n) value

-- a test of strings
abbrev pub is_text : Test → Bool
is_text (OneOf numbers) = false
is_text (Range lo hi) = false
is_text (Mask mask) = false
is_text (Equal text) = true
is_text (Like pattern) = true

-- the cells that a string has to match
abbrev pub cells_of_test : Test → List Cell
cells_of_test (OneOf numbers) = []
cells_of_test (Range lo hi) = []
cells_of_test (Mask mask) = []
cells_of_test (Equal text) = map Lit text
cells_of_test (Like pattern) = pattern

abbrev pub cells_of_cond : AskedCond → List Cell
cells_of_cond asked = cells_of_test asked.cond.test

-- a test of strings holds of those that match its cells
abbrev pub TextsAreMatched : Type 0
TextsAreMatched = (test : Test) (units : List ℕ) → test_holds test (arg.Str units) ≡ (is_text test && matches (cells_of_test test) units)
