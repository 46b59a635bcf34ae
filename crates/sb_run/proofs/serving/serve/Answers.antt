use Rattle.std.proofs.Common.{◌≡◌, ◌∙◌, [], ◌∷◌, ap, subst, sym, true}
use Rattle.sb_actor.specs.WorkerTable.{is_looking}
use Rattle.sb_shared.specs.Seats.{WorkerSeatValue, worker_place, worker_told}
use Rattle.sb_run.specs.Contexts.{ContextAt}
use Rattle.sb_run.specs.Stops.{HasSeenStop}
use Rattle.sb_run.specs.Works.{home_of}
use Rattle.sb_run.proofs.Looking.{knows_stop}
use Rattle.sb_run.proofs.serving.serve.Goals as goal

pub stopped-requires : goal.stopped-requires
stopped-requires g c = record { own = ap (λ (s : WorkerSeatValue). s.table) c.into_seat-seat.ensures.seat ∙ c.requires.own.table ∙ ap (λ (z : ContextAt). z.world.table) (sym c.context.view_is) }

pub of-requires : goal.of-requires
of-requires g c = ap (λ (s : WorkerSeatValue). is_looking s.state.stage) c.stopped.ensures.same ∙ c.into_seat-seat.ensures.kept.looking

pub returns-then-is_some-clause-home : goal.returns-then-is_some-clause-home
returns-then-is_some-clause-home g c = ap home_of c.of.ensures ∙ ap home_of c.stopped.ensures.same ∙ ap home_of c.into_seat-seat.ensures.seat

pub returns-then-is_some-clause-attendance : goal.returns-then-is_some-clause-attendance
returns-then-is_some-clause-attendance g c =
    let seat = c.into_seat-seat.result in
    let same = c.stopped.ensures.same ∙ ap (λ (s : WorkerSeatValue). worker_told s c.stopped.new.self.history) c.into_seat-seat.ensures.seat in
    subst (HasSeenStop c.args.context.now.world) (sym c.of-seen.ensures)
    (record {
      own = record { table = ap (λ (s : WorkerSeatValue). s.table) same ∙ c.requires.own.table; key = ap (λ (s : WorkerSeatValue). s.key) same ∙ c.requires.own.key };
      stop = knows_stop (worker_place seat ∷ []) seat.history c.stopped.result c.stopped.new.self.history c.stopped.ensures.looked (sym c.is_some.ensures ∙ c.if-is_some.true);
    })

pub visit-requires-clause-own : goal.visit-requires-clause-own
visit-requires-clause-own g c κs within =
    let same = c.stopped.ensures.same ∙ ap (λ (s : WorkerSeatValue). worker_told s c.stopped.new.self.history) c.into_seat-seat.ensures.seat in
    record { table = ap (λ (s : WorkerSeatValue). s.table) same ∙ c.requires.own.table; key = ap (λ (s : WorkerSeatValue). s.key) same ∙ c.requires.own.key }

pub visit-requires-clause-looking : goal.visit-requires-clause-looking
visit-requires-clause-looking g c κs within = ap (λ (s : WorkerSeatValue). is_looking s.state.stage) c.stopped.ensures.same ∙ c.into_seat-seat.ensures.kept.looking
