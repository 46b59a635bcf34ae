use Rattle.std.proofs.Common.{◌≡◌}
use Rattle.sb_core.specs.Drains.{drained_by, drained}
use Rattle.sb_core.proofs.Beginning.{IsPassed}
use Rattle.sb_core.proofs.drains.settle.Given as goal

-- the passes that are left give the same, and those so far were whole
abbrev pub invariant-loop-left : goal.invariant-loop-left
invariant-loop-left g l =
    (drained_by l.left l.world ≡ drained l.fn.world) × IsPassed l.fn.world l.world × (l.world.shared.book.setting ≡ l.fn.world.shared.book.setting)

abbrev pub decreases-loop-left : goal.decreases-loop-left
decreases-loop-left g l = l.left
