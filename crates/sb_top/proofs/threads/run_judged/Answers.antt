use denote.Param.Send.{sendable}
use Rattle.std.proofs.Common.{◌<◌, ◌^◌, arith}
use Rattle.std.proofs.lemmas.Result.{IfOk-weaker}
use Rattle.sb_book.specs.Reports.{result_count}
use Rattle.sb_book.specs.declared.reports.Report.{Report}
use Rattle.sb_compile.proofs.Sharing.{programs_sync}
use Rattle.sb_core.specs.Runs.{IsSomeRun}
use Rattle.sb_top.proofs.Sound.{few_results}
use Rattle.sb_top.proofs.threads.run_judged.Goals as goal

pub run_threads-requires-sync-J : goal.run_threads-requires-sync-J
run_threads-requires-sync-J g c κs within = search (programs_sync, sendable) depth 40

pub returns-clause-few : goal.returns-clause-few
returns-clause-few g c =
    let policies = c.args.start.policies in
    let script = c.args.start.script in
    IfOk-weaker c.run_threads.result (λ (r : Report). IsSomeRun policies script r) (λ (r : Report). result_count r.results < 2 ^ 62)
    (λ (r : Report) (some : IsSomeRun policies script r). let few = few_results c.runs_are_sound.ensures policies script r some in omega (arith, few))
    c.run_threads.ensures.run
