use Rattle.std.proofs.Common.{◌≡◌, ◌∙◌, ◌<◌, ◌≤◌, subst, sym, length, arith}
use Rattle.std.specs.List.{All}
use Rattle.sb_shared.specs.Closing.{IsThreadSeat}
use Rattle.sb_shared.specs.Seats.{ThreadSeatValue}
use Rattle.sb_run.specs.Started.{StartedAt}
use Rattle.sb_run.proofs.Firsts.{all_done, done_more, first_at, firsts_set, same_length}
use Rattle.sb_run.proofs.groups.step_each.Goals as goal
use Rattle.sb_run.proofs.groups.step_each.Goals.{then-step, else-step}

abbrev first : StartedAt → ThreadSeatValue
first s = s.first

pub step-requires-clause-own : goal.step-requires-clause-own
step-requires-clause-own c =
    let same = same_length first c.loop-at.threads.items c.args.threads.now.items c.loop-at.invariant.0 in
    let more = c.loop-at-test.true in
    let end = c.len-at-end.ensures in
    let all = subst (All (IsThreadSeat c.args.world.now)) (sym c.loop-at.invariant.0) c.requires.own in
    subst (λ (s : StartedAt). IsThreadSeat c.args.world.now s.first) (sym c.index_mut.ensures.value)
    (first_at first (IsThreadSeat c.args.world.now) c.loop-at.threads.items c.loop-at.at c.index_mut.result.now (omega (arith, same, more, end)) all)

pub loop-at-preserved : goal.loop-at-preserved
loop-at-preserved c =
    let same = same_length first c.loop-at.threads.items c.args.threads.now.items c.loop-at.invariant.0 in
    let more = c.loop-at-test.true in
    let end = c.len-at-end.ensures in
    let low : c.loop-at.at < length c.loop-at.threads.items = omega (arith, same, more, end) in (
      firsts_set first c.loop-at.threads.items c.loop-at.at c.index_mut.result.now c.step.new.self c.index_mut.ensures.value c.step.ensures.first ∙ c.loop-at.invariant.0,
      elim c.if-step.branch [
        | then-step w ↦ λ e. let is = w.busy-is in absurd (cc)
        | else-step w ↦ λ e. done_more c.loop-at.threads.items c.loop-at.at c.index_mut.result.now c.step.new.self c.step.result low c.step.ensures.is c.step.ensures.idle w.if-step.false
            (c.loop-at.invariant.1 (sym w.busy-is ∙ e))
      ],
    )

pub returns-clause-done : goal.returns-clause-done
returns-clause-done c e =
    let same = same_length first c.loop-at.threads.items c.args.threads.now.items c.loop-at.invariant.0 in
    let more = c.loop-at-test.false in
    let end = c.len-at-end.ensures in
    all_done c.loop-at.threads.items c.loop-at.at (omega (arith, same, more, end)) (c.loop-at.invariant.1 e)
