use Rattle.sb_cover.proofs.ResidualLemmas.{left_done, left_unmarked}
use Rattle.sb_cover.proofs.residuals.rules_left.Goals as goal

pub returns-in_default-split_first-clause-left : goal.returns-in_default-split_first-clause-left
returns-in_default-split_first-clause-left c =
    left_unmarked c.loop-rule.left c.loop-rule.rules.now c.args.rules.now c.loop-rule.label.now c.args.label.now c.in_default-split_first.ensures.cases c.loop-rule.invariant.left

pub returns-clause-left : goal.returns-clause-left
returns-clause-left c =
    left_done c.loop-rule.left c.loop-rule.rules.now c.args.rules.now c.loop-rule.label.now c.args.label.now c.in_default.ensures.cases c.loop-rule.invariant.left
