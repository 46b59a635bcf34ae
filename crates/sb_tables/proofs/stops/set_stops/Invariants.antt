use Rattle.std.proofs.Common.{◌≡◌}
use Rattle.sb_tables.proofs.stops.set_stops.Given as goal

-- the seats are those of the world
abbrev pub invariant-loop-stop : goal.invariant-loop-stop
invariant-loop-stop l = (l.keeper.table ≡ l.world.table) × (l.worker.table ≡ l.world.table)
