use Rattle.std.proofs.Common.{◌≡◌, take}
use Rattle.sb_rule.specs.PatternReading.{text_of}
use Rattle.sb_rule.proofs.pattern_reading.units_of.Given as goal

abbrev pub invariant-loop-cell : goal.invariant-loop-cell
invariant-loop-cell l = l.units.items ≡ text_of (take l.cell-index l.cells)
