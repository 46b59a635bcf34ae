use Rattle.std.proofs.Common.{◌≡◌, ◌∙◌, ap, []}
use Rattle.std.proofs.lemmas.List.Elements.{All-rest}
use Rattle.std.specs.Vec.Iter.{into_iter_items}
use Rattle.sb_pool.specs.Pools.{IsSeatOf, seen}
use Rattle.sb_pool.specs.Views.{with_taken}
use Rattle.sb_run.specs.Servers.{ServerAt}
use Rattle.sb_run.proofs.Pooled.{seats_more}
use Rattle.sb_run.proofs.pooling.take_seats.Goals as goal

pub loop-seat-preserved : goal.loop-seat-preserved
loop-seat-preserved c =
    let kept = c.loop-seat.invariant in
    let rest = into_iter_items c.next.new.self in
    let all = into_iter_items c.loop-seat.seat-iterator in (
      c.join.ensures.own,
      c.join.ensures.taken ∙ ap (λ v. with_taken v (seen c.in-Some.seat)) kept.1 ∙ seats_more (seen c.args.last.now) c.loop-seat.yielded c.in-Some.seat,
      All-rest (IsSeatOf c.args.pool.now) c.in-Some.seat rest all c.in-Some.ensures.steps.0 kept.2,
      All-rest (λ (s : ServerAt). (seen s).out ≡ []) c.in-Some.seat rest all c.in-Some.ensures.steps.0 kept.3,
    )
