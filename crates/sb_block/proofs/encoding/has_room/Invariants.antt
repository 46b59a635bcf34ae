use Rattle.std.proofs.Common.{◌≡◌, ◌+◌, length}
use Rattle.std.specs.Prelude.{nat_le}
use Rattle.sb_block.specs.Blocks.{contents_of}
use Rattle.sb_block.proofs.encoding.has_room.Given as goal

abbrev pub invariant-loop-arg : goal.invariant-loop-arg
invariant-loop-arg l =
    nat_le (length l.args + length (contents_of l.args)) l.room
    ≡ nat_le (length l.initial.args + length (contents_of l.initial.args)) l.initial.room

abbrev pub decreases-loop-arg : goal.decreases-loop-arg
decreases-loop-arg l = length l.args
