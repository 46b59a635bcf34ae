use Rattle.std.proofs.Common.{◌≡◌, ◌≤◌, drop, length, take, vec_capacity}
use Rattle.std.specs.Vec.Iter.{into_iter_items, into_iter_len}
use Rattle.sb_shared.proofs.rooms.ResultRoom.fill.Given as goal

abbrev pub invariant-loop-thread : goal.invariant-loop-thread
invariant-loop-thread l =
    (l.results.items ≡ take l._thread (into_iter_items l.fn.next)) × (into_iter_items l.next ≡ drop l._thread (into_iter_items l.fn.next))
    × (length l.results.items ≤ l._thread) × (l.threads ≤ vec_capacity l.results) × (into_iter_len l.next ≡ length (into_iter_items l.next))
