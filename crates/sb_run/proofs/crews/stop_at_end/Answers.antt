use Rattle.std.proofs.Common.{List, map, subst, sym}
use Rattle.sb_shared.specs.Closing.{AreFinished, AreThreads}
use Rattle.sb_shared.specs.Seats.{ThreadSeatValue}
use Rattle.sb_run.proofs.Ended.{threads_ended, threads_finished}
use Rattle.sb_run.proofs.crews.stop_at_end.Goals as goal

pub stop-requires-clause-all : goal.stop-requires-clause-all
stop-requires-clause-all g c =
    let first : List ThreadSeatValue = map (λ s. s.first) c.args.threads.items in
    subst (AreThreads c.args.world.now) (sym c.as_slice.ensures.value) (threads_ended c.args.world.now first c.in_ok-ended.ended.items c.requires.own c.in_ok-ended.ensures c.requires.all)

pub stop-requires-clause-ended : goal.stop-requires-clause-ended
stop-requires-clause-ended g c =
    let first : List ThreadSeatValue = map (λ s. s.first) c.args.threads.items in
    subst (AreFinished c.args.world.now.key) (sym c.as_slice.ensures.value) (threads_finished c.args.world.now first c.in_ok-ended.ended.items c.requires.own c.in_ok-ended.ensures)
