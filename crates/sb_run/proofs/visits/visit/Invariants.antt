use Rattle.std.proofs.Common.{◌<◌}
use Rattle.sb_shared.specs.Seats.{IsSameWorker}
use Rattle.sb_run.proofs.visits.visit.Given as goal

abbrev pub invariant-loop : goal.invariant-loop
invariant-loop g l = IsSameWorker l.fn.seat l.seat × (l.calls < 64)
