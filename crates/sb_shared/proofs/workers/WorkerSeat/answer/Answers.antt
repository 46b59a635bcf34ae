use Rattle.std.proofs.Common.{◌≡◌, sym, ap, subst, ◌∙◌, arith}
use Rattle.sb_actor.specs.WorkerTable.{worker_plan}
use Rattle.sb_actor.specs.declared.acts.Act.TheVariants.{Answer}
use Rattle.sb_shared.specs.Keeping.{IsBody}
use Rattle.sb_shared.specs.Seats.{worker_in}
use Rattle.sb_shared.proofs.Keeping.{book_at_mark, same_plan}
use Rattle.sb_shared.proofs.Lying.{answer_allowed_at}
use Rattle.sb_shared.proofs.workers.WorkerSeat.answer.Goals as goal

pub load-requires : goal.load-requires
load-requires g c =
    let shared = c.world.inside.table.shared in
    let body = c.deref_mut-body.result.now in
    let now = c.deref_mut-body.ensures.value in
    let me = body.seat.me in
    let x = worker_in me.0.parts in
    let kept : IsBody me body.state body.book body.decision = subst (λ z. IsBody z.seat.me z.state z.book z.decision) (sym now) c.self.invariant in
    let count = c.world.invariant.0 in
    let own : body.seat.table_id ≡ shared.table_id = ap (λ z. z.seat.table_id) now ∙ ap (λ z. z.table) c.self.view_is ∙ c.requires.own ∙ ap (λ z. z.table) (sym c.world.view_is) in
    let plan : worker_plan x.state ≡ Answer = ap (λ z. worker_plan (worker_in z.seat.me.0.parts).state) now ∙ ap (λ z. worker_plan z.state) c.self.view_is ∙ c.requires.plan in
    let has = book_at_mark me body.state body.book body.decision kept (sym (same_plan me body.state body.book body.decision kept) ∙ plan) in (
      own,
      omega (arith, count),
      answer_allowed_at
          c.core_laws.ensures
          shared.key shared.table_id.slots body.seat.id me kept.worker has.0 plan has.1,
    )
