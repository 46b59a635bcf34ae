use Rattle.sb_shared.specs.Seats.{IsSameWorker}
use Rattle.sb_tables.proofs.crews.attend.Given as goal

-- the seat is that of the same worker
abbrev pub invariant-loop-step : goal.invariant-loop-step
invariant-loop-step g l = IsSameWorker l.initial.seat l.seat
