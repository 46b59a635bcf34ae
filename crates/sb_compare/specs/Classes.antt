-- Classes of calls that policies and accesses do not tell apart.
use Rattle.std.specs.Prelude.{ℕ, Bool, List, [], ◌∷◌, ◌++◌, if◌then◌else◌}
use Rattle.std.specs.List.{flat_map}
use Rattle.sb_call.specs.declared.arguments.Arg.{Arg}
use Rattle.sb_call.specs.declared.tags.CallTag.{CallTag}
use Rattle.sb_cover.specs.CallAccesses.{writes}
use Rattle.sb_rule.specs.Actions.{action_number}
use Rattle.sb_rule.specs.Verdicts.{verdict_of}
use Rattle.sb_rule.specs.declared.policies.Policy.{Policy}
use Rattle.sb_rule.specs.declared.verdicts.Verdict.{Verdict}
use Rattle.sb_rule.specs.declared.verdicts.Verdict.TheVariants as verdict
use Rattle.sb_compare.specs.declared.changes.Change.{Change}

-- two numbers for a verdict: the line and the action of its rule
abbrev pub verdict_numbers : Verdict → List ℕ
verdict_numbers (verdict.Rule line action) = line ∷ action_number action ∷ []
verdict_numbers verdict.NoRule = 0 ∷ 5 ∷ []

-- the number of a test
abbrev pub bit_of : Bool → ℕ
bit_of test = if test then 1 else 0

-- the class of a call: whether it does more than read, and its verdict under each policy
abbrev pub class_of : CallTag → List Policy → List Arg → List ℕ
class_of tag policies args = bit_of (writes tag args) ∷ flat_map (λ policy. verdict_numbers (verdict_of policy tag args)) policies

-- the class of the calls with a change
abbrev pub class_of_change : Change → List ℕ
class_of_change change = bit_of change.writes ∷ (verdict_numbers change.old ++ (verdict_numbers change.new ++ []))

-- the class of the calls with a verdict that do, or do not do, more than read
abbrev pub class_of_verdict : Bool → Verdict → List ℕ
class_of_verdict writes verdict = bit_of writes ∷ (verdict_numbers verdict ++ [])
