use Rattle.std.proofs.Common.{◌∙◌, ap}
use Rattle.sb_actor.specs.Places.{is_finished, is_over}
use Rattle.sb_shared.specs.Seats.{thread_in}
use Rattle.sb_shared.proofs.Finishing.{over_finished, thread_here}
use Rattle.sb_shared.proofs.threads.ThreadSeat.is_finished.Goals as goal

pub returns : goal.returns
returns c =
    let v = c.self.inside.seat.me.0 in
    let x = (thread_in v.parts).run.thread in
    c.is_over.ensures
    ∙ ap (λ y. is_over y.stage) c.self.invariant.2
    ∙ over_finished v.key.script.value x (thread_here v c.self.invariant.0).stands
    ∙ ap (λ z. is_finished z.key.script.value z.run.thread) c.self.view_is
