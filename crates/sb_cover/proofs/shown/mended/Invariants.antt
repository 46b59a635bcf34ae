use Rattle.std.proofs.Common.{◌≡◌, ◌++◌, false, length}
use Rattle.sb_cover.specs.Shown.{mended}
use Rattle.sb_cover.proofs.shown.mended.Given as goal

abbrev pub invariant-loop-unit : goal.invariant-loop-unit
invariant-loop-unit l = l.shown.items ++ mended l.other l.follows l.units ≡ mended l.other false l.fn.units

abbrev pub decreases-loop-unit : goal.decreases-loop-unit
decreases-loop-unit l = length l.units
