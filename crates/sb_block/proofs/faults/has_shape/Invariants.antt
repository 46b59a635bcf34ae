use Rattle.std.proofs.Common.{◌≡◌, length}
use Rattle.sb_block.specs.Faults.{has_shape}
use Rattle.sb_block.proofs.faults.has_shape.Given as goal

abbrev pub invariant-loop-kind : goal.invariant-loop-kind
invariant-loop-kind l = has_shape l.kinds l.descriptors ≡ has_shape l.initial.kinds l.initial.descriptors

abbrev pub decreases-loop-kind : goal.decreases-loop-kind
decreases-loop-kind l = length l.kinds
