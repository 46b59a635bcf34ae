use Rattle.std.proofs.Common.{◌≡◌, ◌≤◌, ◌+◌, ◌++◌, length}
use Rattle.sb_block.specs.Packing.{packed}
use Rattle.sb_block.proofs.encoding.put_units.Given as goal

abbrev pub invariant-loop-units : goal.invariant-loop-units
invariant-loop-units l =
    (l.words ++ packed l.units ≡ l.initial.words ++ packed l.initial.units)
    × (length l.words + length (packed l.units) ≤ 64)

abbrev pub decreases-loop-units : goal.decreases-loop-units
decreases-loop-units l = length l.units
