-- Codes with an index of their rules.
use Rattle.std.specs.Prelude.{◌≡◌, ◌≤◌, ◌<◌, ℕ, true, List, [], length, slice_index_or, Option, None, Some, ⊤}
use Rattle.std.specs.List.{list_all}
use Rattle.sb_call.specs.Arguments.{fits}
use Rattle.sb_call.specs.declared.arguments.Arg.{Arg}
use Rattle.sb_rule.specs.Limits.{most_rules}
use Rattle.sb_rule.specs.WellMade.{is_well_made_rule}
use Rattle.sb_index.specs.Sets.{Has}
use Rattle.sb_index.specs.Tables.{HasAllThatHold, Indexed}
use Rattle.sb_opcode.specs.Groups.{rules_of}
use Rattle.sb_opcode.specs.Meaning.{rule_holds}
use Rattle.sb_opcode.specs.Opcodes.{Opcode}
use Rattle.sb_opcode.specs.Verified.{VerifiedCode}
use Rattle.sb_compile.specs.Compiling.{code_of}

-- the code is that of the rules that the index is of, which are well made, for the index's tag
pub record IsCompiled (code : VerifiedCode) (index : Indexed) : Type 0 where
  pub few : length index.rules ≤ most_rules
  pub well_made : list_all is_well_made_rule index.rules ≡ true
  pub tag : index.tag ≡ code.tag
  pub codes : code.code ≡ code_of index.rules code.tag

-- the index, if there is one, is of the rules that were compiled
abbrev pub IsIndexed : VerifiedCode → Option Indexed → Type 0
IsIndexed code None = ⊤
IsIndexed code (Some index) = IsCompiled code index

-- a set has the number of each rule of a code that holds
abbrev pub HasEachThatHolds : List Opcode → List Arg → List ℕ → Type 0
HasEachThatHolds ops args set = (number : ℕ) → number < length (rules_of ops)
    → rule_holds args (slice_index_or (rules_of ops) number []) ≡ true → Has set number

-- a rule that is not a candidate does not hold: for a code and an index of the same rules
abbrev pub CandidatesHaveEachThatHolds : Type 0
CandidatesHaveEachThatHolds = (code : VerifiedCode) (index : Indexed) → IsCompiled code index → (args : List Arg) (set : List ℕ) → fits code.tag args ≡ true
    → HasAllThatHold index.rules index.tag args set → HasEachThatHolds code.code args set

-- the code of rules that have an index has at most 256 of them
abbrev pub CompiledRulesAreFew : Type 0
CompiledRulesAreFew = (code : VerifiedCode) (index : Indexed) → IsCompiled code index → length (rules_of code.code) ≤ most_rules
