use Rattle.std.proofs.Common.{◌≡◌}
use Rattle.sb_tables.proofs.plays.is_looking_after.Given as goal

-- the seat is one of the world
abbrev pub invariant-loop-step : goal.invariant-loop-step
invariant-loop-step l = l.seat.table ≡ l.world.table
