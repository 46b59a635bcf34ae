-- Runs are sound.
use Rattle.std.proofs.Common.{◌≡◌, ◌≤◌, ℕ, zero, suc, true, ◌&&◌, List, [], ◌∷◌, None, length, sym, subst, slice_get, lit≤, arith}
use Rattle.std.proofs.lemmas.Bool.{and_parts}
use Rattle.std.proofs.lemmas.Bool.Decides.{nat_tests}
use Rattle.std.specs.List.{list_all}
use Rattle.std.specs.Prelude.{nat_le}
use Rattle.sb_audit.specs.Converse.{ReportsThatFitAreAudited}
use Rattle.sb_book.specs.Reports.{result_count}
use Rattle.sb_book.specs.declared.reports.Report.{Report}
use Rattle.sb_core.specs.EntryCounts.{RunsHaveFewEntries, StatementsAreFew}
use Rattle.sb_core.specs.Fits.{Fits, RunsFit}
use Rattle.sb_core.specs.Laws.{RunsAreLegal, RunsHaveResults, RunsKeepWords}
use Rattle.sb_core.specs.Origins.{NoBlockIsInvented}
use Rattle.sb_core.specs.Runs.{CanRun, IsSomeRun, most_results, ran}
use Rattle.sb_core.specs.Tallies.{EntriesAreFew}
use Rattle.sb_rule.specs.declared.policies.Policy.{Policy}
use Rattle.sb_statements.specs.Actors.{thread_count}
use Rattle.sb_statements.specs.Soundness.{are_targets, is_patience, is_sound, is_start, is_target, is_thread, names_differ}
use Rattle.sb_statements.specs.declared.schedules.Schedule.{Schedule}
use Rattle.sb_statements.specs.declared.scripts.Script.{Script}
use Rattle.sb_statements.specs.declared.scripts.TargetScript.{TargetScript}
use Rattle.sb_transcript.specs.Lengths.{IsWithinLimits, TranscriptsAreShort}
use Rattle.sb_transcript.specs.Printable.{IsPrintable}
use Rattle.sb_plain.specs.Replay.{whole_run}
use Rattle.sb_plain.specs.Sound.{RunsAreSound}
use Rattle.sb_top.proofs.Totalling as totalling

-- a target has at most 4 threads
threads_few : (targets some : List TargetScript) (t : ℕ) → list_all (is_target targets) some ≡ true → thread_count (slice_get some t) ≤ 4
threads_few targets [] t h = lit≤ tt
threads_few targets (target ∷ some) zero h =
    let one = (and_parts (is_target targets target) (list_all (is_target targets) some) h).0 in
    let few = (and_parts (nat_le 1 target.channels && nat_le target.channels 8 && nat_le (length target.threads) 4) (list_all (is_thread targets) target.threads) one).0 in
    let low = (and_parts (nat_le 1 target.channels && nat_le target.channels 8) (nat_le (length target.threads) 4) few).1 in
    grind (arith, nat_tests, low)
threads_few targets (target ∷ some) (suc t) h = threads_few targets some t (and_parts (is_target targets target) (list_all (is_target targets) some) h).1

each_target : (script : Script) → is_sound script ≡ true → list_all (is_target script.targets) script.targets ≡ true
each_target script h =
    let few = nat_le (length script.start) 4096 in
    let starts = list_all is_start script.start in
    let each = list_all (is_target script.targets) script.targets in
    let targets = (and_parts (is_patience script.patience && few && starts) (are_targets script.targets) h).1 in
    (and_parts (nat_le (length script.targets) 8 && names_differ script.targets) each targets).1

-- the report of a run without an unfinished thread is within the limits of scripts
within_limits : RunsFit → RunsHaveFewEntries → StatementsAreFew → (policies : List Policy) (script : Script) (schedule : Schedule) → CanRun policies script schedule
    → (ran policies script schedule).unfinished ≡ None → IsPrintable (ran policies script schedule).report → IsWithinLimits policies script (ran policies script schedule).report
within_limits fit entries most policies script schedule can finished printable =
    let report = (ran policies script schedule).report in
    let fits = fit policies script schedule can finished in
    let sound = totalling.ready_sound policies script can.ready.ready in
    let few = entries policies script schedule can in
    let all = most script sound in
    record {
      history = fits.history;
      entries = omega (arith, few, all);
      results = totalling.few_results policies script report can.ready.ready fits;
      threads = λ t. subst (λ n. n ≤ 4) (sym (fits.whole_results.threads t)) (threads_few script.targets script.targets t (each_target script sound));
      printable = printable;
    }

-- every run is sound, by the laws of the core
pub runs_are_sound : RunsAreLegal → RunsHaveResults → RunsKeepWords → RunsFit → NoBlockIsInvented → EntriesAreFew → RunsHaveFewEntries → StatementsAreFew → TranscriptsAreShort
    → ReportsThatFitAreAudited → RunsAreSound
unfolding whole_run
runs_are_sound legal results words fit sourced few entries most short audited policies script schedule can = record {
  history = legal policies script schedule can;
  results = results policies script schedule can;
  words = words policies script schedule can;
  sourced = sourced policies script schedule can;
  entries = entries policies script schedule can;
  fits = fit policies script schedule can;
  few = few policies script schedule can;
  short = λ finished printable.
      short policies script (ran policies script schedule).report can.ready (within_limits fit entries most policies script schedule can finished printable);
  audited = λ finished printable. audited policies script (ran policies script schedule).report can.ready (fit policies script schedule can finished) printable;
}

-- ---- the report of a run by some order of steps

pub some_run_fits : RunsAreSound → (policies : List Policy) (script : Script) (report : Report) → IsSomeRun policies script report → Fits policies script report
unfolding whole_run
some_run_fits law policies script report some =
    subst (Fits policies script) (sym some.is) ((law policies script some.schedule some.can).fits some.finished)

-- no such report has too many results
pub few_results : RunsAreSound → (policies : List Policy) (script : Script) (report : Report) → IsSomeRun policies script report → result_count report.results ≤ most_results
few_results law policies script report some = totalling.few_results policies script report some.can.ready.ready (some_run_fits law policies script report some)
