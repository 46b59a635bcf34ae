use Rattle.sb_shared.specs.Seats.{IsSameThread}
use Rattle.sb_run.proofs.threads.run_thread.Given as goal

abbrev pub invariant-loop : goal.invariant-loop
invariant-loop g l = IsSameThread l.fn.seat l.seat
