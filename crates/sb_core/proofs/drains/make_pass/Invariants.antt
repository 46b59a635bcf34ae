use Rattle.std.proofs.Common.{◌≡◌, length}
use Rattle.sb_core.specs.Drains.{pass_below}
use Rattle.sb_core.proofs.drains.make_pass.Given as goal

-- the workers before this one made their step
abbrev pub invariant-loop-target : goal.invariant-loop-target
invariant-loop-target g l =
    (l.world ≡ pass_below l.target l.fn.world) × (length l.world.workers ≡ length l.fn.world.workers)
    × (l.world.shared.book.setting ≡ l.fn.world.shared.book.setting)
