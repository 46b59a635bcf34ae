use Rattle.std.proofs.Common.{◌≡◌, map, length}
use Rattle.sb_opcode.specs.Unpacking.{cell_of}
use Rattle.sb_opcode.specs.Fragments.{after_fragment}
use Rattle.sb_opcode.proofs.fragments.after_fragment.Given as goal

abbrev pub invariant-loop-cell : goal.invariant-loop-cell
invariant-loop-cell l = after_fragment l.folding (map cell_of l.cells) l.units ≡ after_fragment l.folding (map cell_of l.initial.cells) l.initial.units

abbrev pub decreases-loop-cell : goal.decreases-loop-cell
decreases-loop-cell l = length l.cells
