use Rattle.std.proofs.Common.{◌≡◌, length}
use Rattle.sb_scripttext.specs.Arguments.{args_at}
use Rattle.sb_scripttext.proofs.Reading.{with_args}
use Rattle.sb_scripttext.proofs.arguments.args_at.Given as goal

-- the arguments that were read and those that follow are those of the line
abbrev pub invariant-loop-kind : goal.invariant-loop-kind
invariant-loop-kind l = with_args l.args (args_at l.left l.tokens) ≡ args_at l.kinds l.fn.tokens

abbrev pub decreases-loop-kind : goal.decreases-loop-kind
decreases-loop-kind l = length l.left
