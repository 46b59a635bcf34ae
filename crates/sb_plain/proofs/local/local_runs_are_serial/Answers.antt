use Rattle.sb_plain.proofs.LocalRuns.{local_serial}
use Rattle.sb_plain.proofs.local.local_runs_are_serial.Goals as goal

pub returns : goal.returns
returns c =
    local_serial c.read_policies_are_well_made.ensures c.read_scripts_are_ready.ensures c.read_schedules_are_bounded.ensures.there
    c.thinned_scripts_are_sound.ensures.ready c.thinned_scripts_are_sound.ensures.actors c.runs_of_one_thread_are_serial.ensures.thinned
