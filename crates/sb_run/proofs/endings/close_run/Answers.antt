use Rattle.std.proofs.Common.{◌≡◌, ◌∙◌, ap, map}
use Rattle.sb_run.specs.Works.{home_of}
use Rattle.sb_run.specs.Openings.{worker_homes}
use Rattle.sb_run.proofs.Ended.{are_workers, has_closed}
use Rattle.sb_run.proofs.endings.close_run.Goals as goal

pub close-requires-clause-workers : goal.close-requires-clause-workers
close-requires-clause-workers c =
    let homes : map home_of c.in_ok-seats.seats.items ≡ worker_homes c.args.world = ap (map home_of) c.in_ok-seats.ensures.seats ∙ c.requires.homes in
    are_workers c.args.world c.in_ok-seats.seats.items homes c.in_ok-seats.ensures.kept

pub returns : goal.returns
returns c =
    has_closed c.closed_runs_are_runs.ensures c.args.world.key c.args.threads.items c.in_ok-seats.seats.items c.close.result
    c.establish_ready.ensures c.close.ensures.closed c.close.ensures.workers c.requires.finished c.in_ok-seats.ensures.kept
