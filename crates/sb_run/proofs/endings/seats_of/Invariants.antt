use Rattle.std.proofs.Common.{◌≡◌, All}
use Rattle.sb_run.specs.Works.{IsWork}
use Rattle.sb_run.proofs.endings.seats_of.Given as goal

abbrev pub invariant-loop-work : goal.invariant-loop-work
invariant-loop-work l = (l.seats.items ≡ l.yielded) × All IsWork l.seats.items
