use Rattle.std.proofs.Common.{◌≡◌, true, All}
use Rattle.std.specs.Vec.Iter.{into_iter_items}
use Rattle.sb_actor.specs.WorkerTable.{is_looking}
use Rattle.sb_shared.specs.Seats.{WorkerSeatValue}
use Rattle.sb_run.proofs.openings.works_of.Given as goal

abbrev pub invariant-loop-seat : goal.invariant-loop-seat
invariant-loop-seat l = (l.works.items ≡ l.yielded) × All (λ (s : WorkerSeatValue). is_looking s.state.stage ≡ true) (into_iter_items l.seat-iterator)
