use Rattle.std.proofs.Common.{◌≡◌, length}
use Rattle.sb_explain.specs.Reasons.{reasons}
use Rattle.sb_explain.proofs.reasons.next_reason.Given as goal

abbrev pub invariant-loop-rule : goal.invariant-loop-rule
invariant-loop-rule l = reasons l.left l.tag l.args ≡ reasons l.rules l.tag l.args

abbrev pub decreases-loop-rule : goal.decreases-loop-rule
decreases-loop-rule l = length l.left
