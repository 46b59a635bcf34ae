use Rattle.std.proofs.Common.{◌≡◌, [], All}
use Rattle.std.specs.Vec.Iter.{into_iter_items}
use Rattle.sb_pool.specs.Pools.{IsSeatOf, seen}
use Rattle.sb_run.specs.Pooling.{with_seats}
use Rattle.sb_run.specs.Servers.{ServerAt}
use Rattle.sb_run.proofs.pooling.take_seats.Given as goal

abbrev pub invariant-loop-seat : goal.invariant-loop-seat
invariant-loop-seat l =
    IsSeatOf l.pool l.last × (seen l.last ≡ with_seats (seen l.fn.last) l.yielded) × All (IsSeatOf l.pool) (into_iter_items l.seat-iterator)
    × All (λ (s : ServerAt). (seen s).out ≡ []) (into_iter_items l.seat-iterator)
