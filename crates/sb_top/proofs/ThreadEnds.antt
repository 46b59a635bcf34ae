-- The end of a run on threads is that of a run by some order of steps.
use Rattle.std.proofs.Common.{◌≡◌, ◌∙◌, ap, sym, List, None}
use Rattle.std.specs.Prelude.{IfOk, Result, Ok, Err}
use Rattle.sb_book.specs.declared.reports.Report.{Report}
use Rattle.sb_core.specs.Runs.{IsSomeRun}
use Rattle.sb_core.specs.declared.runs.Ran.{Ran}
use Rattle.sb_rule.specs.declared.policies.Policy.{Policy}
use Rattle.sb_statements.specs.declared.scripts.Script.{Script}
use Rattle.sb_plain.specs.Readings.{ReportedEnd, reported_run}
use Rattle.sb_plain.specs.Replay.{whole_run}
use Rattle.sb_top.specs.Run.{IsThreadsEnd}

-- a run by an order that leaves no thread unfinished, and its report
same_ran : (policies : List Policy) (script : Script) (report : Report) (some : IsSomeRun policies script report)
    → ◌≡◌ {A = Ran} (record { report = report; unfinished = None }) (whole_run policies script some.schedule)
unfolding whole_run
same_ran policies script report some = λ i. record { report = some.is i; unfinished = sym some.finished i }

pub is_threads_end : (policies : List Policy) (script : Script) (report : Report) (end : ReportedEnd) → IsSomeRun policies script report
    → end ≡ reported_run script (record { report = report; unfinished = None }) → IsThreadsEnd policies script end
is_threads_end policies script report end some e =
    let same = same_ran policies script report some in
    record {
      order = some.schedule;
      is_order = record { can = some.can; no_rounds = some.no_rounds; finished = sym (ap (λ (r : Ran). r.unfinished) same) };
      is = e ∙ ap (reported_run script) same;
    }

-- the same of what may run out of memory
pub are_threads_ends : {E : Type 0} (policies : List Policy) (script : Script) (report : Report) (result : Result ReportedEnd E) → IsSomeRun policies script report
    → IfOk result (λ end. end ≡ reported_run script (record { report = report; unfinished = None })) → IfOk result (IsThreadsEnd policies script)
are_threads_ends policies script report (Ok end) some e = is_threads_end policies script report end some e
are_threads_ends policies script report (Err error) some e = e
