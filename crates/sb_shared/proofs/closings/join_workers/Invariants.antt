use Rattle.std.proofs.Common.{◌≡◌, ◌≤◌, ◌++◌, length, map, vec_capacity}
use Rattle.std.specs.Vec.Iter.{into_iter_items}
use Rattle.sb_shared.specs.Closing.{part_of_worker, taken_worker}
use Rattle.sb_shared.specs.Seats.{WorkerSeatValue}
use Rattle.sb_shared.proofs.closings.join_workers.Given as goal

abbrev pub invariant-loop-seat : goal.invariant-loop-seat
invariant-loop-seat l =
    (l.keeper.table ≡ l.fn.keeper.table) × (l.keeper.key ≡ l.fn.keeper.key) × (l.keeper.parts ≡ l.fn.keeper.parts ++ map part_of_worker l.yielded)
    × (l.keeper.taken ≡ l.fn.keeper.taken ++ map taken_worker l.yielded)
    × (l.states.items ≡ map (λ (s : WorkerSeatValue). s.state) l.yielded) × (length l.fn.seats.items ≤ vec_capacity l.states) × (l.fn.seats.items ≡ l.yielded ++ into_iter_items l.seat-iterator)
