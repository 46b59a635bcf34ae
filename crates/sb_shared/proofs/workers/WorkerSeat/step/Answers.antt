use Rattle.std.proofs.Common.{◌≡◌, true, is_some, sym, ap, subst, ◌∙◌}
use Rattle.sb_actor.specs.WorkerTable.{worker_plan}
use Rattle.sb_shared.specs.Plays.{MayStep, Placed}
use Rattle.sb_shared.specs.Parts.{is_on_word}
use Rattle.sb_shared.specs.Seats.{IsWordStep, IsWorker, WorkerSeatValue, worker_in, worker_part, worker_seat}
use Rattle.sb_shared.specs.declared.workers.WorkerBody.{WorkerBody}
use Rattle.sb_shared.proofs.Allowing.{may_step}
use Rattle.sb_shared.proofs.Keeping.{same_plan}
use Rattle.sb_shared.proofs.Seating.{word_made}
use Rattle.sb_shared.proofs.workers.WorkerSeat.step.Goals as goal

pub perform-requires-clause-may : goal.perform-requires-clause-may
perform-requires-clause-may c =
    let shared = c.world.inside.table.shared in
    let body = c.self.inside.body.value in
    let x = worker_in body.seat.me.0.parts in
    let now = c.deref_mut-body.ensures.value in
    let plan : worker_plan x.state ≡ c.plan-act.result = same_plan body.seat.me body.state body.book body.decision c.self.invariant ∙ ap (λ z. worker_plan z.state) (sym now) ∙ sym c.plan-act.ensures.plan in
    subst (λ z. MayStep shared.key shared.table_id.slots z.seat.id z.seat.me c.plan-act.result) (sym now)
    (may_step c.core_laws.ensures shared.key shared.table_id.slots body.seat.id body.seat.me.0 body.seat.me.1 (worker_part x) c.self.invariant.worker.one c.plan-act.result plan)

pub returns-clause-step : goal.returns-clause-step
returns-clause-step c on =
    let body = c.deref_mut-body.result.now in
    let now = c.deref_mut-body.ensures.value in
    let me = body.seat.me in
    let after = c.perform.new.seat in
    let moved = c.in-Some.ensures.moved.2 in
    let is : IsWorker me.0 = subst (λ (z : WorkerBody). IsWorker z.seat.me.0) (sym now) c.self.invariant.worker in
    let view : worker_seat body.seat.table_id me.0 (is_some body.decision) ≡ c.args.self.now = ap (λ (z : WorkerBody). worker_seat z.seat.table_id z.seat.me.0 (is_some z.decision)) now ∙ c.self.view_is in
    let on_now : is_on_word (worker_plan (worker_in me.0.parts).state) ≡ true = ap (λ (s : WorkerSeatValue). is_on_word (worker_plan s.state)) view ∙ on in
    subst (λ (s : WorkerSeatValue). IsWordStep s (worker_seat after.table_id after.me.0 (is_some body.decision))) view
    (word_made body.seat.table_id after.table_id me.0 after.me.0 (is_some body.decision) (is_some body.decision) is moved.0 (ap (λ (z : Placed). z.0) moved.1) on_now moved.3)
