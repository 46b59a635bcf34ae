use Rattle.std.proofs.Common.{◌≡◌}
use Rattle.sb_pool.specs.Counting.{IsPlaceOf}
use Rattle.sb_pool.proofs.semaphore.Semaphore.try_acquire.Given as goal

-- no event yet
abbrev pub invariant-loop : goal.invariant-loop
invariant-loop g l = IsPlaceOf l.self.table.shared.table_id l.place × (l.place.me ≡ l.fn.place.me)
