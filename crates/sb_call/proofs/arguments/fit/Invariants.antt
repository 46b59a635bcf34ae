use Rattle.std.proofs.Common.{◌≡◌, length}
use Rattle.sb_call.specs.Arguments.{fit}
use Rattle.sb_call.proofs.arguments.fit.Given as goal

abbrev pub invariant-loop-kind : goal.invariant-loop-kind
invariant-loop-kind l = fit l.kinds l.args ≡ fit l.initial.kinds l.initial.args

abbrev pub decreases-loop-kind : goal.decreases-loop-kind
decreases-loop-kind l = length l.kinds
