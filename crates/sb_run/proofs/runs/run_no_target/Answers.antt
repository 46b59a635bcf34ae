use Rattle.std.proofs.Common.{◌≡◌, ◌∙◌, ap, subst, sym}
use Rattle.sb_book.specs.Readiness.{IsReady}
use Rattle.sb_book.specs.ReadyScripts.{Ready}
use Rattle.sb_core.specs.Runs.{IsSomeRun, ran}
use Rattle.sb_core.specs.declared.runs.Ran.{Ran}
use Rattle.sb_run.proofs.Running.{no_steps, some_run_none}
use Rattle.sb_run.proofs.runs.run_no_target.Goals as goal

pub returns : goal.returns
returns g c =
    let policies = c.args.start.policies in
    let script = c.args.start.script in
    let is : c.in_ok-ran.ran ≡ ran policies script no_steps = c.in_ok-ran.ensures.value ∙ ap (ran policies script) c.no_steps-schedule.ensures in
    let ready : IsReady policies script = subst (λ (z : Ready). IsReady z.policies z.script) c.ready.ensures c.establish_ready.ensures in
    record { run = subst (λ (z : Ran). IsSomeRun policies script z.report) (sym is) (some_run_none policies script ready c.requires.none) }
