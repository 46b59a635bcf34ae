use Rattle.std.proofs.Common.{◌≡◌, ◌-◌, ◌≤◌, length, codes}
use Rattle.sb_ruletext.specs.Conditions.{number_at, numbers_at}
use Rattle.sb_ruletext.specs.Steps.{joined_at}
use Rattle.sb_ruletext.specs.declared.faults.PolicyLimit.TheVariants.{Numbers}
use Rattle.sb_ruletext.proofs.Joined.{with_items}
use Rattle.sb_ruletext.proofs.conditions.numbers_at.Given as goal

-- the numbers that were read and those that follow are those of the line
abbrev pub invariant-loop-numbers : goal.invariant-loop-numbers
invariant-loop-numbers l = (length l.numbers ≤ 16) × (with_items l.numbers (joined_at Numbers (16 - length l.numbers) (codes "or") number_at l.tokens) ≡ numbers_at l.fn.tokens)

abbrev pub decreases-loop-numbers : goal.decreases-loop-numbers
decreases-loop-numbers l = 16 - length l.numbers
