use Rattle.sb_local.proofs.OneThread.{runs_are_serial, thinned_runs_are_serial}
use Rattle.sb_local.proofs.laws.runs_of_one_thread_are_serial.Goals as goal

pub returns-clause-runs : goal.returns-clause-runs
returns-clause-runs c = runs_are_serial c.blocks_come_back.ensures c.runs_fit.ensures

pub returns-clause-thinned : goal.returns-clause-thinned
returns-clause-thinned c = thinned_runs_are_serial (runs_are_serial c.blocks_come_back.ensures c.runs_fit.ensures) c.denied_calls_change_nothing.ensures
    c.thinned_scripts_are_sound.ensures.settings
