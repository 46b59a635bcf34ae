use Rattle.std.proofs.Common.{◌≡◌, []}
use Rattle.sb_pool.specs.Pools.{seen, IsSeatOf}
use Rattle.sb_tables.proofs.pools.deal_in_rounds.Given as goal

-- the seat knows what it knew
abbrev pub invariant-loop-round : goal.invariant-loop-round
invariant-loop-round g l = IsSeatOf l.pool l.seat × (seen l.seat ≡ seen l.fn.seat) × ((seen l.seat).out ≡ [])
