use Rattle.std.proofs.Common.{◌≡◌, ◌++◌}
use Rattle.std.specs.Prelude.{vec_capacity}
use Rattle.std.specs.Vec.Iter.{into_iter_items}
use Rattle.sb_pool.specs.Rooms.{filled}
use Rattle.sb_pool.proofs.rooms.in_order.Given as goal

-- the works so far are those of the places so far
abbrev pub invariant-loop-slot : goal.invariant-loop-slot
invariant-loop-slot g l =
    (l.ordered.items ≡ filled l.yielded) × (vec_capacity l.ordered ≡ vec_capacity l.fn.works) × (l.fn.slots.items ≡ l.yielded ++ into_iter_items l.slot-iterator)
