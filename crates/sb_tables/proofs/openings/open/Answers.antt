use Rattle.sb_tables.proofs.Playing.{fresh_threads, fresh_workers}
use Rattle.sb_tables.proofs.openings.open.Goals as goal

pub returns-clause-players : goal.returns-clause-players
returns-clause-players c =
    let made = c.in_ok-world.field-0 in
    let is = c.in_ok-world.ensures in
    record {
      workers = fresh_workers made.world c.in_ok-start.field-0.script made.workers.items is.script is.workers;
      threads = fresh_threads made.world c.in_ok-start.field-0.script made.threads.items is.script is.threads;
    }
