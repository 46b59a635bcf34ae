use Rattle.std.proofs.lemmas.List.Elements.{All-rest}
use Rattle.std.specs.Vec.Iter.{into_iter_items}
use Rattle.sb_run.specs.Started.{IsDone, StartedAt}
use Rattle.sb_run.specs.Threads.{HasEnded}
use Rattle.sb_run.proofs.Firsts.{joined_more}
use Rattle.sb_run.proofs.groups.join_threads.Goals as goal

pub loop-thread-preserved : goal.loop-thread-preserved
loop-thread-preserved g c = (
  joined_more (λ (s : StartedAt). s.first) HasEnded c.loop-thread.yielded c.loop-thread.seats.items _ c.in-Some.thread c.in_ok-seat.seat c.in_ok-push.ensures.items c.loop-thread.invariant.0 c.in_ok-seat.ensures,
  All-rest IsDone c.in-Some.thread (into_iter_items c.next.new.self) (into_iter_items c.loop-thread.thread-iterator) c.in-Some.ensures.steps.0 c.loop-thread.invariant.1,
)
