use Rattle.std.proofs.Common.{◌≡◌, ◌++◌, ◌∷◌, ◌∙◌, [], List, ap, true}
use Rattle.std.proofs.lemmas.List.Elements.{All-rest}
use Rattle.std.specs.Vec.Iter.{into_iter_items}
use Rattle.sb_actor.specs.WorkerTable.{is_looking}
use Rattle.sb_shared.specs.Seats.{WorkerSeatValue}
use Rattle.sb_run.proofs.openings.works_of.Goals as goal

pub loop-seat-preserved : goal.loop-seat-preserved
loop-seat-preserved c = (
  c.in_ok-push.ensures.items ∙ ap (λ (z : WorkerSeatValue). c.loop-seat.works.items ++ z ∷ []) c.of-work.ensures
      ∙ ap (λ (l : List WorkerSeatValue). l ++ c.in-Some.seat ∷ []) c.loop-seat.invariant.0,
  All-rest (λ (s : WorkerSeatValue). is_looking s.state.stage ≡ true) c.in-Some.seat (into_iter_items c.next.new.self) (into_iter_items c.loop-seat.seat-iterator) c.in-Some.ensures.steps.0 c.loop-seat.invariant.1,
)
