use Rattle.std.proofs.Common.{◌≡◌, take}
use Rattle.sb_cover.specs.Bits.{codes_of}
use Rattle.sb_cover.proofs.bits.first_codes.Given as goal

abbrev pub invariant-loop-comparison : goal.invariant-loop-comparison
invariant-loop-comparison l = l.codes.items ≡ codes_of (take l.comparison-index l.comparisons) l.width 0
