use Rattle.std.proofs.Common.{length}
use Rattle.std.specs.Vec.Iter.{into_iter_items}
use Rattle.sb_tables.specs.Pools.{IsTaking}
use Rattle.sb_tables.proofs.pools.joined.Given as goal

-- the last seat has taken in those before the ones that are left
abbrev pub invariant-loop-other : goal.invariant-loop-other
invariant-loop-other l = IsTaking l.pool (length l.fn.others.items) l.seat (into_iter_items l.other-iterator)
