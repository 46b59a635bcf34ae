use Rattle.std.proofs.Common.{◌≡◌, [], ◌∷◌}
use Rattle.sb_shared.specs.Events.{stop_in}
use Rattle.sb_shared.specs.Seats.{worker_place}
use Rattle.sb_run.proofs.Looking.{after_error, out_of_memory}
use Rattle.sb_run.proofs.visits.advance.Goals as goal

pub returns-then-is_err-clause-failed : goal.returns-then-is_err-clause-failed
returns-then-is_err-clause-failed g c =
    let seat = c.make_step-made.new.seat in
    after_error c.make_step-made.result (stop_in c.fail.new.self.history ≡ 2)
    (out_of_memory (worker_place seat ∷ []) seat.history c.fail.new.self.history c.fail.ensures.stopped)
