use Rattle.std.proofs.lemmas.List.Elements.{All-rest}
use Rattle.std.specs.Vec.Iter.{into_iter_items}
use Rattle.sb_shared.specs.Closing.{IsThreadSeat}
use Rattle.sb_run.proofs.Firsts.{firsts_more}
use Rattle.sb_run.specs.Started.{StartedAt}
use Rattle.sb_run.proofs.groups.start_threads.Goals as goal

pub loop-seat-preserved : goal.loop-seat-preserved
loop-seat-preserved g c = (
  firsts_more (λ (s : StartedAt). s.first) c.loop-seat.started.items _ c.in_ok-thread.thread c.loop-seat.yielded c.in-Some.seat c.in_ok-push.ensures.items c.loop-seat.invariant.0 c.in_ok-thread.ensures,
  All-rest (IsThreadSeat c.args.world.now) c.in-Some.seat (into_iter_items c.next.new.self) (into_iter_items c.loop-seat.seat-iterator) c.in-Some.ensures.steps.0 c.loop-seat.invariant.1,
)
