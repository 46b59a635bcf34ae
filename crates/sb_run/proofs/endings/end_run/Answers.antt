use Rattle.std.proofs.Common.{◌∙◌, ap, subst, sym, [], ◌∷◌, ◌++◌, List}
use Rattle.sb_pool.specs.Pools.{AreSeats}
use Rattle.sb_book.specs.Histories.{Setting}
use Rattle.sb_shared.specs.Seats.{WorkerSeatValue}
use Rattle.sb_statements.specs.declared.scripts.Script.{Script}
use Rattle.sb_core.specs.Runs.{CanFinish}
use Rattle.sb_run.specs.Openings.{worker_homes}
use Rattle.sb_run.proofs.Ended.{some_run}
use Rattle.sb_run.proofs.Pooled.{last_homes}
use Rattle.sb_run.proofs.endings.end_run.Goals as goal

pub close_pool-works-requires-clause-seats : goal.close_pool-works-requires-clause-seats
close_pool-works-requires-clause-seats g c =
    let e = c.requires.ended in
    subst (λ (hs : List WorkerSeatValue). AreSeats c.args.pool hs (c.args.servers.items ++ c.args.last ∷ [])) (sym (last_homes c.args.pool (worker_homes c.args.world) c.args.servers.items c.args.last e.seats e.some)) e.seats

pub close_run-requires-clause-homes : goal.close_run-requires-clause-homes
close_run-requires-clause-homes g c =
    let e = c.requires.ended in
    c.close_pool-works.ensures.homes ∙ last_homes c.args.pool (worker_homes c.args.world) c.args.servers.items c.args.last e.seats e.some

pub finish-requires-clause-parts : goal.finish-requires-clause-parts
finish-requires-clause-parts g c κs within =
    let h = c.in_ok-closed.ensures in
    subst (λ (script : Script). CanFinish script c.in_ok-closed.closed.words c.in_ok-closed.closed.workers.items c.in_ok-closed.closed.book c.in_ok-closed.closed.results) (sym c.requires.script) h.runs.finishes

pub finish-requires-clause-judge : goal.finish-requires-clause-judge
finish-requires-clause-judge g c κs within = c.requires.judge ∙ ap (λ (s : Setting). s.policies) (sym c.in_ok-closed.ensures.setting)

pub returns : goal.returns
returns g c = record { run = some_run c.args.world.key c.in_ok-closed.closed c.finish.result c.in_ok-closed.ensures c.finish.ensures }
