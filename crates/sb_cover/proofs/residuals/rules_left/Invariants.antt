use Rattle.std.proofs.Common.{length}
use Rattle.sb_cover.specs.Calls.{AreMarkedSoFar, AreSplit}
use Rattle.sb_cover.proofs.residuals.rules_left.Given as goal

abbrev pub invariant-loop-rule : goal.invariant-loop-rule
invariant-loop-rule l = record {
  left : AreMarkedSoFar l.left l.rules l.label l.fn.label l.fn.rules;
  split : AreSplit l.conds l.param l.left;
}

abbrev pub decreases-loop-rule : goal.decreases-loop-rule
decreases-loop-rule l = length l.rules
