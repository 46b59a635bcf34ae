use Rattle.std.proofs.Common.{◌≡◌, length}
use Rattle.sb_pool.specs.Pools.{AreNumbered}
use Rattle.sb_tables.specs.declared.pools.Work.{Work}
use Rattle.sb_tables.proofs.pools.works.Given as goal

-- the works so far
abbrev pub invariant-loop-number : goal.invariant-loop-number
invariant-loop-number l = (length l.works.items ≡ l.number) × AreNumbered (λ (w : Work). w.number) l.works.items
