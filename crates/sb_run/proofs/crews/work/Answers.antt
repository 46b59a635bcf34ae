use Rattle.sb_shared.specs.declared.stops.Stop.TheVariants.{Finished}
use Rattle.sb_run.proofs.Looking.{set_stop}
use Rattle.sb_run.proofs.crews.work.Goals as goal

pub returns-clause-stopped : goal.returns-clause-stopped
returns-clause-stopped g c =
    let watch = c.look_after.new.watch in
    set_stop watch.parts watch.history Finished c.stop_at_end.new.watch.history c.in_ok-ended.ensures.stopped
