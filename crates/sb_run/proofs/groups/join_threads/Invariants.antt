use Rattle.std.proofs.Common.{All, map}
use Rattle.std.specs.List.{AllZip}
use Rattle.std.specs.Vec.Iter.{into_iter_items}
use Rattle.sb_run.specs.Started.{IsDone}
use Rattle.sb_run.specs.Threads.{HasEnded}
use Rattle.sb_run.proofs.groups.join_threads.Given as goal

abbrev pub invariant-loop-thread : goal.invariant-loop-thread
invariant-loop-thread g l = AllZip HasEnded (map (λ s. s.first) l.yielded) l.seats.items × All IsDone (into_iter_items l.thread-iterator)
