use Rattle.std.proofs.Common.{◌≡◌, ◌<◌, length}
use Rattle.std.specs.Prelude.{vec_capacity}
use Rattle.sb_pool.specs.Pools.{seen, AreDivided, ArePlaced}
use Rattle.sb_pool.proofs.pool.divided.Given as goal

-- the seats so far
abbrev pub invariant-loop-seat : goal.invariant-loop-seat
invariant-loop-seat g l =
    (length l.seats.items ≡ l._seat) × (0 < l._seat) × (vec_capacity l.seats ≡ vec_capacity l.fn.room)
    × AreDivided l.queue.table.shared.table_id (seen l.fn.first).homes l.seats.items
    × ArePlaced l.semaphore.table.shared.table_id (length (seen l.fn.first).homes) l.count l.seats.items
