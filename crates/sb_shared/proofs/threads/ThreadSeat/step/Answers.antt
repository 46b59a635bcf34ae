use Rattle.std.proofs.Common.{◌≡◌, true, false, sym, ap, ◌∙◌}
use Rattle.sb_actor.specs.Places.{is_finished}
use Rattle.sb_actor.specs.ThreadTable.{thread_plan}
use Rattle.sb_shared.specs.Parts.{is_on_word}
use Rattle.sb_shared.specs.Seats.{thread_in, thread_part}
use Rattle.sb_shared.proofs.Allowing.{may_step}
use Rattle.sb_shared.proofs.Finishing.{on_word_by}
use Rattle.sb_shared.proofs.threads.ThreadSeat.step.Goals as goal

pub perform-requires-clause-may : goal.perform-requires-clause-may
perform-requires-clause-may c =
    let shared = c.world.inside.table.shared in
    let seat = c.self.inside.seat in
    let x = thread_in seat.me.0.parts in
    let same : seat.me.0.key.script.value ≡ c.args.script.now = ap (λ z. z.key.script.value) c.self.view_is ∙ c.requires.script in
    let plan : thread_plan seat.me.0.key.script.value x.run.thread ≡ c.plan-act.result = (λ i. thread_plan (same i) (sym c.self.invariant.2 i)) ∙ sym (c.plan-act.ensures.plan) in
    may_step c.core_laws.ensures shared.key shared.table_id.slots seat.id seat.me.0 seat.me.1 (thread_part x) c.self.invariant.0.one c.plan-act.result plan

pub returns-else-after-clause-finished : goal.returns-else-after-clause-finished
returns-else-after-clause-finished c h =
    let seat = c.self.inside.seat in
    let x = thread_in seat.me.0.parts in
    let same : seat.me.0.key.script.value ≡ c.args.script.now = ap (λ z. z.key.script.value) c.self.view_is ∙ c.requires.script in
    let done : is_finished seat.me.0.key.script.value x.run.thread ≡ true = (λ i. is_finished (same i) ((ap (λ z. z.run.thread) c.self.view_is) i)) ∙ h in
    let plan : thread_plan seat.me.0.key.script.value x.run.thread ≡ c.plan-act.result = (λ i. thread_plan (same i) (sym c.self.invariant.2 i)) ∙ sym (c.plan-act.ensures.plan) in
    let is : is_on_word c.plan-act.result ≡ false = on_word_by seat.me.0 c.self.invariant.0 c.plan-act.result true plan done in
    let made : is_on_word c.plan-act.result ≡ true = c.in-Some.ensures.moved.0 in
    absurd cc

pub returns-in_default-clause-step : goal.returns-in_default-clause-step
returns-in_default-clause-step c h =
    let seat = c.self.inside.seat in
    let x = thread_in seat.me.0.parts in
    let same : seat.me.0.key.script.value ≡ c.args.script.now = ap (λ z. z.key.script.value) c.self.view_is ∙ c.requires.script in
    let done : is_finished seat.me.0.key.script.value x.run.thread ≡ false = (λ i. is_finished (same i) ((ap (λ z. z.run.thread) c.self.view_is) i)) ∙ h in
    let plan : thread_plan seat.me.0.key.script.value x.run.thread ≡ c.plan-act.result = (λ i. thread_plan (same i) (sym c.self.invariant.2 i)) ∙ sym (c.plan-act.ensures.plan) in
    let is : is_on_word c.plan-act.result ≡ true = on_word_by seat.me.0 c.self.invariant.0 c.plan-act.result false plan done in
    let made : is_on_word c.plan-act.result ≡ false = c.in_default.ensures.moved.0 in
    absurd cc
