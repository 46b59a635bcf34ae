use Rattle.std.proofs.Common.{◌≡◌, ◌≤◌, ◌++◌, length, vec_capacity}
use Rattle.std.specs.Vec.Iter.{into_iter_items, into_iter_len}
use Rattle.sb_shared.specs.Rooms.{grouped}
use Rattle.sb_shared.proofs.closings.group.Given as goal

abbrev pub invariant-loop-room : goal.invariant-loop-room
invariant-loop-room l =
    (l.targets.items ++ grouped (into_iter_items l.room-iterator) (into_iter_items l.next) ≡ grouped l.fn.rooms.items l.fn.results.items)
    × (length l.targets.items ≡ length l.yielded) × (length l.fn.rooms.items ≤ vec_capacity l.targets)
    × (into_iter_len l.next ≡ length (into_iter_items l.next)) × (l.fn.rooms.items ≡ l.yielded ++ into_iter_items l.room-iterator)
