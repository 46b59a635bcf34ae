use Rattle.sb_top.proofs.Ordering.{orders_are_replayed, threaded_runs_are_replayed}
use Rattle.sb_top.proofs.laws.orders_are_replayed.Goals as goal

pub returns-clause-orders : goal.returns-clause-orders
returns-clause-orders c =
    orders_are_replayed c.written_schedules_are_read.ensures.orders c.written_schedules_are_short.ensures.orders c.steps_are_folds.ensures.orders
    c.sound_parts.ensures.targets c.read_policies_are_well_made.ensures c.read_scripts_are_ready.ensures

pub returns-clause-threads : goal.returns-clause-threads
returns-clause-threads c =
    threaded_runs_are_replayed c.written_schedules_are_read.ensures.orders c.written_schedules_are_short.ensures.orders c.steps_are_folds.ensures.orders
    c.sound_parts.ensures.targets c.read_policies_are_well_made.ensures c.read_scripts_are_ready.ensures
