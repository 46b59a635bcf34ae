use Rattle.std.proofs.Common.{◌≡◌}
use Rattle.sb_index.specs.Fronts.{past}
use Rattle.sb_index.proofs.fronts.past.Given as goal

abbrev pub invariant-loop-skip : goal.invariant-loop-skip
invariant-loop-skip l = past l.skip l.cells ≡ past l.initial.skip l.initial.cells

abbrev pub decreases-loop-skip : goal.decreases-loop-skip
decreases-loop-skip l = l.skip
