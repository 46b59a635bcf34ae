use Rattle.std.proofs.Common.{◌≡◌, ◌++◌, Some, map}
use Rattle.std.specs.Vec.Iter.{into_iter_items}
use Rattle.crossbeam_queue.specs.Passes.{view, IsPassOf}
use Rattle.sb_pool.specs.Views.{fresh_view}
use Rattle.sb_pool.proofs.seats.PoolSeat.found_all.Given as goal

-- the seat knows the homes of the works so far
abbrev pub invariant-loop-work : goal.invariant-loop-work
invariant-loop-work g l = IsPassOf l.queue l.self.pass × (view l.self.pass ≡ fresh_view 0 (map g.W.Numbered.home l.yielded) (Some 1)) × (l.self.rooms ≡ l.fn.self.rooms)
    × (l.fn.works.items ≡ l.yielded ++ into_iter_items l.work-iterator) × (l.self.place ≡ l.fn.self.place)
