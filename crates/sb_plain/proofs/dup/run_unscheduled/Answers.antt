use Rattle.std.proofs.Common.{◌≡◌, subst}
use Rattle.std.specs.Prelude.{IfOk}
use Rattle.sb_statements.specs.declared.schedules.Schedule.{Schedule}
use Rattle.sb_plain.specs.Replay.{whole_run}
use Rattle.sb_plain.proofs.dup.run_unscheduled.Goals as goal

pub returns-clause-value : goal.returns-clause-value
unfolding whole_run
returns-clause-value c =
    let P : Schedule → Type 0 = λ s. IfOk c.run.result (λ r. r ≡ whole_run c.args.start.policies c.args.start.script s) in
    subst P c.no_schedule.ensures c.run.ensures.value
