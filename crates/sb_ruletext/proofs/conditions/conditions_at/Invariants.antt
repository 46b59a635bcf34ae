use Rattle.std.proofs.Common.{◌≡◌, ◌-◌, ◌≤◌, length, codes}
use Rattle.sb_ruletext.specs.Conditions.{condition_at, conditions_at}
use Rattle.sb_ruletext.specs.Steps.{joined_at}
use Rattle.sb_ruletext.specs.declared.faults.PolicyLimit.TheVariants.{Conditions}
use Rattle.sb_ruletext.proofs.Joined.{with_items}
use Rattle.sb_ruletext.proofs.conditions.conditions_at.Given as goal

-- the conditions that were read and those that follow are those of the line
abbrev pub invariant-loop-alloc : goal.invariant-loop-alloc
invariant-loop-alloc l =
    (length l.conds ≤ 8) × (with_items l.conds (joined_at Conditions (8 - length l.conds) (codes "and") (condition_at l.tag) l.tokens) ≡ conditions_at l.tag l.fn.tokens)

abbrev pub decreases-loop-alloc : goal.decreases-loop-alloc
decreases-loop-alloc l = 8 - length l.conds
