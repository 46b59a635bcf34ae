-- What compiling keeps.
use Rattle.std.specs.Prelude.{◌≡◌, ◌≢◌, ℕ, true, List, [], map, None}
use Rattle.sb_base.specs.Wide.{folded}
use Rattle.sb_call.specs.Arguments.{fits}
use Rattle.sb_call.specs.declared.arguments.Arg.{Arg}
use Rattle.sb_call.specs.declared.arguments.Arg.TheVariants as arg
use Rattle.sb_call.specs.declared.tags.CallTag.{CallTag}
use Rattle.sb_rule.specs.Matching.{fold_cell, matches}
use Rattle.sb_rule.specs.declared.cells.Cell.{Cell}
use Rattle.sb_rule.specs.Verdicts.{cond_holds, verdict_of}
use Rattle.sb_rule.specs.WellMade.{is_well_formed, is_well_made}
use Rattle.sb_rule.specs.declared.conditions.Cond.{Cond}
use Rattle.sb_rule.specs.declared.conditions.Test.{Test}
use Rattle.sb_rule.specs.declared.conditions.Test.TheVariants as test
use Rattle.sb_rule.specs.declared.policies.Policy.{Policy}
use Rattle.sb_rule.specs.declared.policies.Rule.{Rule}
use Rattle.sb_opcode.specs.Faults.{fault_of}
use Rattle.sb_opcode.specs.Meaning.{all_hold, group_holds}
use Rattle.sb_compile.specs.Compiling.{test_code, cond_code, code_of, program_of, program_verdict}

-- the program of a well-made policy says of each call whose arguments fit what the policy says
abbrev pub CompilingKeepsVerdicts : Type 0
CompilingKeepsVerdicts = (policy : Policy) (tag : CallTag) (args : List Arg)
    → is_well_made policy ≡ true → fits tag args ≡ true → program_verdict (program_of policy) tag args ≡ verdict_of policy tag args

-- the code of a call that has rules, under a well-made policy, has no fault
abbrev pub CompiledCodeIsFaultless : Type 0
CompiledCodeIsFaultless = (policy : Policy) (tag : CallTag)
    → is_well_made policy ≡ true → code_of policy.rules tag ≢ [] → fault_of tag (code_of policy.rules tag) ≡ None

-- the opcodes of a pattern hold of a string one after the other exactly if the pattern matches it
abbrev pub PatternOpcodesHoldWhereItMatches : Type 0
PatternOpcodesHoldWhereItMatches = (param : ℕ) (cells : List Cell) (units : List ℕ)
    → all_hold (test_code param (test.Like cells)) (arg.Str units) ≡ matches cells units

-- the group of a condition that is well formed for a call holds of arguments that fit exactly if the condition does
abbrev pub GroupsHoldWhereConditionsDo : Type 0
GroupsHoldWhereConditionsDo = (tag : CallTag) (cond : Cond) (args : List Arg)
    → is_well_formed tag cond ≡ true → fits tag args ≡ true → group_holds args (cond_code cond) ≡ cond_holds cond args

-- tests, conditions and rules with their strings and patterns folded
abbrev pub folded_test : Test → Test
folded_test (test.Equal text) = test.Equal (map folded text)
folded_test (test.Like cells) = test.Like (map fold_cell cells)
folded_test (test.OneOf numbers) = test.OneOf numbers
folded_test (test.Range lo hi) = test.Range lo hi
folded_test (test.Mask mask) = test.Mask mask

abbrev pub folded_cond : Cond → Cond
folded_cond cond = record cond { test = folded_test cond.test }

abbrev pub folded_rule : Rule → Rule
folded_rule rule = record rule { conds = map folded_cond rule.conds }

-- programs of policies whose rules differ in the letter case of strings and patterns alone say the same
abbrev pub LetterCaseDoesNotMatter : Type 0
LetterCaseDoesNotMatter = (a b : Policy) (tag : CallTag) (args : List Arg)
    → is_well_made a ≡ true → is_well_made b ≡ true → map folded_rule a.rules ≡ map folded_rule b.rules → fits tag args ≡ true
    → program_verdict (program_of a) tag args ≡ program_verdict (program_of b) tag args
