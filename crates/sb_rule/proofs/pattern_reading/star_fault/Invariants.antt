use Rattle.std.proofs.Common.{◌≡◌, ◌+◌, length}
use Rattle.sb_rule.specs.PatternReading.{star_fault}
use Rattle.sb_rule.proofs.pattern_reading.star_fault.Given as goal

abbrev pub invariant-loop-unit : goal.invariant-loop-unit
invariant-loop-unit l = (l.at + length l.rest ≡ length l.text) × (star_fault l.at l.rest ≡ star_fault 0 l.text)

abbrev pub decreases-loop-unit : goal.decreases-loop-unit
decreases-loop-unit l = length l.rest
