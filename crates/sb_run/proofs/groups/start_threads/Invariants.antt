use Rattle.std.proofs.Common.{◌≡◌, All, map}
use Rattle.std.specs.Vec.Iter.{into_iter_items}
use Rattle.sb_shared.specs.Closing.{IsThreadSeat}
use Rattle.sb_run.proofs.groups.start_threads.Given as goal

abbrev pub invariant-loop-seat : goal.invariant-loop-seat
invariant-loop-seat g l = (map (λ s. s.first) l.started.items ≡ l.yielded) × All (IsThreadSeat l.world) (into_iter_items l.seat-iterator)
