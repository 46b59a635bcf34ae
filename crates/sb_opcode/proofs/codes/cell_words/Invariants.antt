use Rattle.std.proofs.Common.{◌≡◌, map, take}
use Rattle.sb_opcode.specs.Unpacking.{cell_of}
use Rattle.sb_opcode.proofs.codes.cell_words.Given as goal

abbrev pub invariant-loop-cell : goal.invariant-loop-cell
invariant-loop-cell l = map cell_of l.words.items ≡ take l.cell-index l.cells
