use Rattle.std.proofs.Common.{◌≡◌, true}
use Rattle.crossbeam_queue.specs.Passes.{view, IsPassOf}
use Rattle.sb_pool.proofs.seats.PoolSeat.take_counted.Given as goal

-- no work yet
abbrev pub invariant-loop : goal.invariant-loop
invariant-loop g l =
    IsPassOf l.queue l.self.pass × (view l.self.pass ≡ view l.fn.self.pass) × (l.self.rooms ≡ l.fn.self.rooms) × (l.self.place ≡ l.fn.self.place)
