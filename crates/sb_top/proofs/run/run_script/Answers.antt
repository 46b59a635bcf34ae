use Rattle.std.proofs.Common.{◌≡◌, ◌∙◌, subst, rules, None}
use Rattle.std.specs.Prelude.{IfOk}
use Rattle.sb_book.specs.ReadyScripts.{Ready}
use Rattle.sb_core.specs.Runs.{IsSomeRun}
use Rattle.sb_statements.specs.declared.scripts.Script.{Script}
use Rattle.sb_plain.specs.Readings.{reported_run}
use Rattle.sb_top.proofs.ThreadEnds.{are_threads_ends}
use Rattle.sb_top.proofs.run.run_script.Goals as goal

pub returns : goal.returns
returns g c =
    let report = c.in_ok-report.report in
    let script = c.args.opened.script in
    let P : Ready → Type 0 = λ z. IsSomeRun z.policies z.script report in
    let some : P c.args.opened = subst P (c.of.ensures ∙ c.into_parts-ready.ensures.ready) c.in_ok-report.ensures.report in
    let same : c.deref.result.now ≡ script = search rules in
    let Q : Script → Type 0 = λ s. IfOk c.end_of_run.result (λ end. end ≡ reported_run s (record { report = report; unfinished = None })) in
    let ended : Q script = subst Q same c.end_of_run.ensures in
    are_threads_ends c.args.opened.policies script report c.end_of_run.result some ended
