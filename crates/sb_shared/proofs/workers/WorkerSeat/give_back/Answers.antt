use Rattle.std.proofs.Common.{◌≡◌, Some, [], ◌∷◌, sym, ap, subst, ◌∙◌, arith}
use Rattle.atomic_table.specs.Table.{rest}
use Rattle.sb_actor.specs.WorkerTable.{worker_plan}
use Rattle.sb_actor.specs.declared.acts.Act.TheVariants.{Give}
use Rattle.sb_shared.specs.Keeping.{IsBody}
use Rattle.sb_shared.specs.Plays.{Placed}
use Rattle.sb_shared.specs.Seats.{IsWorker, worker_in}
use Rattle.sb_shared.proofs.Keeping.{book_at_give, same_plan}
use Rattle.sb_shared.proofs.Lying.{give_allowed_at, lies_holding}
use Rattle.sb_shared.proofs.workers.WorkerSeat.give_back.Goals as goal

pub store-requires : goal.store-requires
store-requires c =
    let shared = c.world.inside.table.shared in
    let body = c.deref_mut-body.result.now in
    let now = c.deref_mut-body.ensures.value in
    let me = body.seat.me in
    let x = worker_in me.0.parts in
    let kept : IsBody me body.state body.book body.decision = subst (λ z. IsBody z.seat.me z.state z.book z.decision) (sym now) c.self.invariant in
    let count = c.world.invariant.0 in
    let own : body.seat.table_id ≡ shared.table_id = ap (λ z. z.seat.table_id) now ∙ ap (λ z. z.table) c.self.view_is ∙ c.requires.own ∙ ap (λ z. z.table) (sym c.world.view_is) in
    let plan : worker_plan x.state ≡ Give = ap (λ z. worker_plan (worker_in z.seat.me.0.parts).state) now ∙ ap (λ z. worker_plan z.state) c.self.view_is ∙ c.requires.plan in
    let has = book_at_give me body.state body.book body.decision kept (sym (same_plan me body.state body.book body.decision kept) ∙ plan) in
    let held : body.book ≡ Some has.0 = kept.book_is ∙ has.1 in
    let out = lies_holding body.book has.0 me.1 held kept.lies in
    let after : c.exchange.new.seat.me ≡ (me.0, (0, Some has.0) ∷ []) =
    c.exchange.ensures.3 ∙ (λ i. (me.0, (0, (c.take.ensures.value ∙ held) i) ∷ rest (out i))) in
    let same : c.exchange.new.seat.me.0 ≡ me.0 = ap (λ (m : Placed). m.0) after in (
      c.exchange.ensures.0 ∙ own,
      omega (arith, count),
      give_allowed_at
          c.core_laws.ensures
          shared.key shared.table_id.slots c.exchange.new.seat.id c.exchange.new.seat.me (subst IsWorker (sym same) kept.worker) has.0
          (ap (λ v. worker_plan (worker_in v.parts).state) same ∙ plan) (ap (λ v. (worker_in v.parts).book) same ∙ has.1) (ap (λ (m : Placed). m.1) after),
    )
