use Rattle.std.proofs.Common.{◌∙◌, [], ◌∷◌, sym}
use Rattle.sb_shared.specs.Seats.{thread_place}
use Rattle.sb_run.proofs.Looking.{knows_stop}
use Rattle.sb_run.proofs.threads.run_thread.Goals as goal

pub returns-then-is_some-clause-stopped : goal.returns-then-is_some-clause-stopped
returns-then-is_some-clause-stopped g c =
    let seat = c.step.new.self in
    knows_stop (thread_place seat ∷ []) seat.history c.stopped.result c.stopped.new.self.history c.stopped.ensures.looked (sym c.is_some.ensures ∙ c.if-is_some.true)
