use Rattle.std.proofs.Common.{◌≡◌, ◌≤◌, ◌++◌, length, map, vec_capacity}
use Rattle.std.specs.Vec.Iter.{into_iter_items}
use Rattle.sb_shared.specs.Closing.{part_of_thread, taken_thread}
use Rattle.sb_shared.specs.Seats.{ThreadSeatValue}
use Rattle.sb_shared.proofs.closings.join_threads.Given as goal

abbrev pub invariant-loop-seat : goal.invariant-loop-seat
invariant-loop-seat l =
    (l.keeper.table ≡ l.fn.keeper.table) × (l.keeper.key ≡ l.fn.keeper.key) × (l.keeper.parts ≡ l.fn.keeper.parts ++ map part_of_thread l.yielded)
    × (l.keeper.taken ≡ l.fn.keeper.taken ++ map taken_thread l.yielded)
    × (l.results.items ≡ map (λ (s : ThreadSeatValue). s.run.results) l.yielded) × (length l.fn.seats.items ≤ vec_capacity l.results) × (l.fn.seats.items ≡ l.yielded ++ into_iter_items l.seat-iterator)
