use Rattle.std.proofs.Common.{◌≡◌, ◌++◌, length}
use Rattle.sb_rule.specs.PatternReading.{cells_of}
use Rattle.sb_rule.proofs.pattern_reading.cells_of.Given as goal

abbrev pub invariant-loop-cell : goal.invariant-loop-cell
invariant-loop-cell l = l.cells.items ++ cells_of l.rest ≡ cells_of l.text

abbrev pub decreases-loop-cell : goal.decreases-loop-cell
decreases-loop-cell l = length l.rest
