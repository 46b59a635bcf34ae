use Rattle.std.proofs.Common.{◌≡◌, map, length}
use Rattle.sb_opcode.specs.Unpacking.{cell_of}
use Rattle.sb_opcode.specs.Fragments.{after_first}
use Rattle.sb_opcode.proofs.fragments.after_first.Given as goal

abbrev pub invariant-loop-later : goal.invariant-loop-later
invariant-loop-later l = after_first l.folding (map cell_of l.cells) l.rest ≡ after_first l.folding (map cell_of l.cells) l.units

abbrev pub decreases-loop-later : goal.decreases-loop-later
decreases-loop-later l = length l.rest
