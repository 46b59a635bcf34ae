use Rattle.std.proofs.Common.{◌≡◌, length}
use Rattle.sb_pool.proofs.rooms.Rooms.of.Given as goal

abbrev pub invariant-loop-slot : goal.invariant-loop-slot
invariant-loop-slot g l = length l.slots.items ≡ l._slot
