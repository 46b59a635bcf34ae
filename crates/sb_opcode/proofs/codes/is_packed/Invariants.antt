use Rattle.std.proofs.Common.{◌≡◌, length}
use Rattle.sb_opcode.specs.Unpacking.{is_packed}
use Rattle.sb_opcode.proofs.codes.is_packed.Given as goal

abbrev pub invariant-loop-later : goal.invariant-loop-later
invariant-loop-later l = is_packed l.rest ≡ is_packed l.initial.rest

abbrev pub decreases-loop-later : goal.decreases-loop-later
decreases-loop-later l = length l.rest
