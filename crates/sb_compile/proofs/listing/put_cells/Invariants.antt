use Rattle.std.proofs.Common.{◌≡◌, map, take}
use Rattle.sb_rule.specs.PatternReading.{text_of}
use Rattle.sb_opcode.specs.Unpacking.{cell_of}
use Rattle.sb_compile.proofs.listing.put_cells.Given as goal

abbrev pub invariant-loop-word : goal.invariant-loop-word
invariant-loop-word l = l.units.items ≡ text_of (map cell_of (take l.word-index l.cells))
