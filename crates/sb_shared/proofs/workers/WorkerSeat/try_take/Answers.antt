use Rattle.std.proofs.Common.{◌≡◌, ◌+◌, ℕ, Bool, eqb, eq-eqb, ne_eqb, Some, is_some, List, [], ◌∷◌, sym, ap, subst, ◌∙◌, arith}
use mathlib.Core.Option.{none}
use Rattle.atomic_table.specs.Table.{rest, step}
use Rattle.sb_actor.specs.WorkerTable.{worker_plan}
use Rattle.sb_actor.specs.declared.acts.Act.TheVariants.{Take}
use Rattle.sb_shared.specs.Keeping.{IsBody}
use Rattle.sb_actor.specs.Observations as seen
use Rattle.sb_shared.specs.Parts.{first_part}
use Rattle.sb_shared.specs.Plays.{IsShown, Placed}
use Rattle.sb_shared.specs.Rule.{Slot, turn_word}
use Rattle.sb_shared.specs.Seats.{IsTry, WorkerSeatValue, worker_in, worker_seat}
use Rattle.sb_shared.specs.declared.views.View.{View}
use Rattle.sb_shared.specs.declared.workers.WorkerBody.{WorkerBody}
use Rattle.sb_shared.proofs.Keeping.{body_missed, body_taken, here, nothing_out, same_plan, without_book}
use Rattle.sb_shared.proofs.Lying.{try_allowed_at, tried_got}
use Rattle.sb_shared.proofs.Seating.{tried_to}
use Rattle.sb_shared.proofs.workers.WorkerSeat.try_take.Goals as goal

pub compare_exchange-found-requires : goal.compare_exchange-found-requires
compare_exchange-found-requires c =
    let shared = c.world.inside.table.shared in
    let body = c.deref_mut-body.result.now in
    let now = c.deref_mut-body.ensures.value in
    let me = body.seat.me in
    let x = worker_in me.0.parts in
    let kept : IsBody me body.state body.book body.decision = subst (λ z. IsBody z.seat.me z.state z.book z.decision) (sym now) c.self.invariant in
    let count = c.world.invariant.0 in
    let own : body.seat.table_id ≡ shared.table_id = ap (λ z. z.seat.table_id) now ∙ ap (λ z. z.table) c.self.view_is ∙ c.requires.own ∙ ap (λ z. z.table) (sym c.world.view_is) in
    let plan : worker_plan x.state ≡ Take = ap (λ z. worker_plan (worker_in z.seat.me.0.parts).state) now ∙ ap (λ z. worker_plan z.state) c.self.view_is ∙ c.requires.plan in
    let plan_now : worker_plan body.state ≡ Take = sym (same_plan me body.state body.book body.decision kept) ∙ plan in
    let target : body.state.target ≡ x.target = ap (λ z. z.target) kept.state_is ∙ (here me body.state body.book body.decision kept).its_target in
    let name : c.from-name.result + 1 ≡ x.target + 1 = ap (λ (z : ℕ). z + 1) (c.from-name.ensures ∙ c.target.ensures ∙ target) in (
      own,
      omega (arith, count),
      try_allowed_at c.core_laws.ensures
          shared.key shared.table_id.slots body.seat.id me kept.worker (c.from-name.result + 1) plan (without_book me body.state body.book body.decision kept plan_now) name,
    )

pub exchange-requires : goal.exchange-requires
exchange-requires c =
    let shared = c.world.inside.table.shared in
    let body = c.deref_mut-body.result.now in
    let now = c.deref_mut-body.ensures.value in
    let me = body.seat.me in
    let x = worker_in me.0.parts in
    let kept : IsBody me body.state body.book body.decision = subst (λ z. IsBody z.seat.me z.state z.book z.decision) (sym now) c.self.invariant in
    let own : body.seat.table_id ≡ shared.table_id = ap (λ z. z.seat.table_id) now ∙ ap (λ z. z.table) c.self.view_is ∙ c.requires.own ∙ ap (λ z. z.table) (sym c.world.view_is) in
    let plan : worker_plan x.state ≡ Take = ap (λ z. worker_plan (worker_in z.seat.me.0.parts).state) now ∙ ap (λ z. worker_plan z.state) c.self.view_is ∙ c.requires.plan in
    let plan_now : worker_plan body.state ≡ Take = sym (same_plan me body.state body.book body.decision kept) ∙ plan in
    let got = tried_got (step shared.table_id.slots turn_word 0 (c.from-name.result + 1) none) me c.compare_exchange-found.result c.compare_exchange-found.new.seat.me
    (nothing_out me body.state body.book body.decision kept plan_now) c.if-found-ne0.false c.compare_exchange-found.ensures.2 in
    let e : c.compare_exchange-found.new.seat.me.1 ≡ (0, Some got.0) ∷ [] = ap (λ (m : Placed). m.1) got.1 in
    (c.compare_exchange-found.ensures.0 ∙ own, (Some got.0, e ∙ ap (λ (l : List (ℕ × Slot)). (0, Some got.0) ∷ l) (sym (ap rest e))))

pub invariant_of-self : goal.invariant_of-self
invariant_of-self c =
    let shared = c.world.inside.table.shared in
    let body = c.deref_mut-body.result.now in
    let now = c.deref_mut-body.ensures.value in
    let me = body.seat.me in
    let kept : IsBody me body.state body.book body.decision = subst (λ z. IsBody z.seat.me z.state z.book z.decision) (sym now) c.self.invariant in
    let plan : worker_plan body.state ≡ Take =
    sym (same_plan me body.state body.book body.decision kept) ∙ ap (λ z. worker_plan (worker_in z.seat.me.0.parts).state) now ∙ ap (λ z. worker_plan z.state) c.self.view_is ∙ c.requires.plan in
    body_missed me body.state body.book body.decision kept (step shared.table_id.slots turn_word 0 (c.from-name.result + 1) none)
    c.compare_exchange-found.result c.compare_exchange-found.new.seat.me c.after.new.self plan c.if-found-ne0.true c.compare_exchange-found.ensures.2 c.after.ensures

pub returns-then-found-ne0-clause-step : goal.returns-then-found-ne0-clause-step
returns-then-found-ne0-clause-step c =
    let shared = c.world.inside.table.shared in
    let body = c.deref_mut-body.result.now in
    let now = c.deref_mut-body.ensures.value in
    let me = body.seat.me in
    let found = c.compare_exchange-found.result in
    let after = c.compare_exchange-found.new.seat in
    let tried = c.compare_exchange-found.ensures.2 in
    let made = step shared.table_id.slots turn_word 0 (c.from-name.result + 1) none in
    let kept : IsBody me body.state body.book body.decision = subst (λ z. IsBody z.seat.me z.state z.book z.decision) (sym now) c.self.invariant in
    let view : worker_seat body.seat.table_id me.0 (is_some body.decision) ≡ c.args.self.now = ap (λ (z : WorkerBody). worker_seat z.seat.table_id z.seat.me.0 (is_some z.decision)) now ∙ c.self.view_is in
    let plan : worker_plan (worker_in me.0.parts).state ≡ Take = ap (λ z. worker_plan z.state) view ∙ c.requires.plan in
    let plan_now : worker_plan body.state ≡ Take = sym (same_plan me body.state body.book body.decision kept) ∙ plan in
    let left = body_missed me body.state body.book body.decision kept made found after.me c.after.new.self plan_now c.if-found-ne0.true tried c.after.ensures in
    let it = tried_to body.seat.table_id after.table_id me.0 after.me.0 (is_some body.decision) (is_some body.decision) kept.worker (ap first_part left.worker.one) (eqb found 0) plan tried.2 in
    subst (λ (z : WorkerSeatValue × Bool). IsTry z.0 (worker_seat after.table_id after.me.0 (is_some body.decision)) z.1) (λ i. (view i, ne_eqb found 0 c.if-found-ne0.true i)) it

pub returns-clause-step : goal.returns-clause-step
returns-clause-step c =
    let shared = c.world.inside.table.shared in
    let body = c.deref_mut-body.result.now in
    let now = c.deref_mut-body.ensures.value in
    let me = body.seat.me in
    let found = c.compare_exchange-found.result in
    let after = c.compare_exchange-found.new.seat in
    let last = c.exchange.new.seat in
    let tried = c.compare_exchange-found.ensures.2 in
    let made = step shared.table_id.slots turn_word 0 (c.from-name.result + 1) none in
    let kept : IsBody me body.state body.book body.decision = subst (λ z. IsBody z.seat.me z.state z.book z.decision) (sym now) c.self.invariant in
    let view : worker_seat body.seat.table_id me.0 (is_some body.decision) ≡ c.args.self.now = ap (λ (z : WorkerBody). worker_seat z.seat.table_id z.seat.me.0 (is_some z.decision)) now ∙ c.self.view_is in
    let plan : worker_plan (worker_in me.0.parts).state ≡ Take = ap (λ z. worker_plan z.state) view ∙ c.requires.plan in
    let plan_now : worker_plan body.state ≡ Take = sym (same_plan me body.state body.book body.decision kept) ∙ plan in
    let left = body_taken me body.state body.book body.decision kept made found after.me last.me c.after.new.self c.exchange.result plan_now c.if-found-ne0.false tried c.after.ensures
    c.exchange.ensures.2 c.exchange.ensures.3 in
    let same : last.me.0 ≡ after.me.0 = ap (λ (z : Placed). z.0) c.exchange.ensures.3 in
    let it = tried_to body.seat.table_id last.table_id me.0 last.me.0 (is_some body.decision) (is_some body.decision) kept.worker (ap first_part left.worker.one) (eqb found 0) plan
    (subst (λ (u : View). IsShown me.0 u (seen.Turn (eqb found 0))) (sym same) tried.2) in
    subst (λ (z : WorkerSeatValue × Bool). IsTry z.0 (worker_seat last.table_id last.me.0 (is_some body.decision)) z.1) (λ i. (view i, eq-eqb found 0 c.if-found-ne0.false i)) it

pub invariant_of-self-2 : goal.invariant_of-self-2
invariant_of-self-2 c =
    let shared = c.world.inside.table.shared in
    let body = c.deref_mut-body.result.now in
    let now = c.deref_mut-body.ensures.value in
    let me = body.seat.me in
    let kept : IsBody me body.state body.book body.decision = subst (λ z. IsBody z.seat.me z.state z.book z.decision) (sym now) c.self.invariant in
    let plan : worker_plan body.state ≡ Take =
    sym (same_plan me body.state body.book body.decision kept) ∙ ap (λ z. worker_plan (worker_in z.seat.me.0.parts).state) now ∙ ap (λ z. worker_plan z.state) c.self.view_is ∙ c.requires.plan in
    body_taken me body.state body.book body.decision kept (step shared.table_id.slots turn_word 0 (c.from-name.result + 1) none)
    c.compare_exchange-found.result c.compare_exchange-found.new.seat.me c.exchange.new.seat.me c.after.new.self c.exchange.result plan c.if-found-ne0.false
    c.compare_exchange-found.ensures.2 c.after.ensures c.exchange.ensures.2 c.exchange.ensures.3
