use Rattle.std.proofs.Common.{◌≡◌}
use Rattle.sb_shared.specs.Events.{stop_in}
use Rattle.sb_run.proofs.Looking.{after_error, out_of_memory}
use Rattle.sb_run.proofs.crews.work_or_fail.Goals as goal

pub returns-then-is_err-clause-failed : goal.returns-then-is_err-clause-failed
returns-then-is_err-clause-failed g c =
    let watch = c.work-worked.new.watch in
    after_error c.work-worked.result (stop_in c.fail.new.self.history ≡ 2) (out_of_memory watch.parts watch.history c.fail.new.self.history c.fail.ensures.stopped)
