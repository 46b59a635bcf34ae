use Rattle.sb_shared.specs.Seats.{IsSameThread}
use Rattle.sb_tables.proofs.crews.finish.Given as goal

-- the seat stays if it is
abbrev pub invariant-loop-step : goal.invariant-loop-step
invariant-loop-step l = IsSameThread l.initial.seat l.seat
