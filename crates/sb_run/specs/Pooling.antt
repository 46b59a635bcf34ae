-- How the seats of the pool come together at the end.
use Rattle.std.specs.Prelude.{List, [], ◌∷◌}
use Rattle.sb_pool.specs.Pools.{seen}
use Rattle.sb_pool.specs.Views.{with_taken}
use Rattle.sb_pool.specs.declared.protocol.PoolView.{PoolView}
use Rattle.sb_pool.specs.declared.seats.PoolSeat.{PoolSeat}

-- what a seat knows once it has taken in these, in order
abbrev pub with_seats : {W H : Type 0} → PoolView H → List (PoolSeat W H) → PoolView H
with_seats v [] = v
with_seats v (s ∷ seats) = with_seats (with_taken v (seen s)) seats
