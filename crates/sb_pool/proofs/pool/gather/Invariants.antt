use Rattle.std.proofs.Common.{◌≡◌}
use Rattle.crossbeam_queue.specs.Passes.{IsPassOf}
use Rattle.sb_pool.specs.Pools.{seen, IsGathering}
use Rattle.sb_pool.proofs.pool.gather.Given as goal

-- the works so far are at their places
abbrev pub invariant-loop-work : goal.invariant-loop-work
invariant-loop-work g l =
    IsPassOf l.queue l.seat.pass × IsGathering g.W.Numbered.number g.W.Numbered.home (seen l.fn.seat).homes l._work (seen l.seat) l.rooms × (l.seat.place ≡ l.fn.seat.place)
