-- What `make` comes to: the reports of generated scripts, and their totals.
use Rattle.std.proofs.Common.{◌≡◌, ◌∙◌, ℕ, zero, suc, ◌+◌, ◌==◌, Bool, true, false, if◌then◌else◌, ◌++◌, ap, sym, refl, subst, List, length}
use Rattle.std.specs.List.{list_all}
use Rattle.std.specs.Prelude.{IfOk, IfSome, Option, Result, Ok, Err, None, Some, ◌∷◌, []}
use Rattle.sb_book.specs.declared.reports.Report.{Report}
use Rattle.sb_core.specs.Runs.{IsSomeRun}
use Rattle.sb_gen.specs.Calls.{call_of, statement_of, statements_of}
use Rattle.sb_gen.specs.Generator.{after, kind_of, next, number_of}
use Rattle.sb_gen.specs.Policies.{AreMade}
use Rattle.sb_gen.specs.Scripts.{script_of, targets_of, threads_of}
use Rattle.sb_local.specs.Serial.{is_call}
use Rattle.sb_outside.specs.Outside.{Held}
use Rattle.sb_rule.specs.declared.policies.Policy.{Policy}
use Rattle.sb_statements.specs.declared.scripts.Script.{Script}
use Rattle.sb_statements.specs.declared.statements.Statement.{Statement}
use Rattle.sb_transcript.specs.Totals.{totals_line}
use Rattle.sb_message.specs.declared.statuses.EndStatus.TheVariants.{Done}
use Rattle.sb_message.specs.declared.statuses.Refusal.TheVariants.{NoMemory}
use Rattle.sb_plain.specs.Contents.{Contents, refused}
use Rattle.sb_plain.specs.Readings.{IsFoundOnThreads, ReportedEnd, end_or_refusal}
use Rattle.sb_top.specs.Make.{IsMadeEnd, IsMadeReport, made_line, made_end, made_policies, make_end, made_text, policies_or_none}
use Rattle.sb_plain.specs.Ends.{End, IsOrderOf, OnThreads}
use Rattle.sb_plain.specs.Replay.{whole_run}
use Rattle.sb_plain.specs.Sound.{AreEndsSound, IsSound, RunsAreSound}
use Rattle.sb_top.specs.Totals.{AllClean, TotalsAreOfVerdicts, are_calls, totals_by}
use Rattle.sb_plain.proofs.Carrying.{starved}
use Rattle.sb_plain.proofs.Readings.{same_end}
use Rattle.sb_top.proofs.Sound.{some_run_fits}
use Rattle.sb_plain.proofs.Suiting.{AreSuited}
use Rattle.sb_top.proofs.Verdicts.{both_true}

-- the policies that were made are those of the text
are_made : (policies : List Policy) → AreMade policies → policies ≡ made_policies
unfolding made_policies
are_made policies made = sym (ap policies_or_none made)

-- ---- each generated statement is a call

either : (test : Bool) (x y : Statement) → is_call x ≡ true → is_call y ≡ true → is_call (if test then x else y) ≡ true
either true x y h k = h
either false x y h k = k

kind_is_call : (t kind k : ℕ) → is_call (call_of t kind k) ≡ true
kind_is_call t kind k =
    either (kind == 0) _ _ refl (either (kind == 1) _ _ refl (either (kind == 2) _ _ refl (either (kind == 3) _ _ refl
    (either (kind == 4) _ _ refl (either (kind == 5) _ _ refl (either (kind == 6) _ _ refl refl))))))

statements_are_calls : (t n x : ℕ) → list_all is_call (statements_of t n x) ≡ true
statements_are_calls t zero x = refl
statements_are_calls t (suc n) x =
    both_true (is_call (statement_of t (next x))) (list_all is_call (statements_of t n (next x))) (kind_is_call t (kind_of (next x)) (number_of (next x)))
    (statements_are_calls t n (next x))

threads_are_calls : (t n x : ℕ) → list_all (λ statements. list_all is_call statements) (threads_of t n x) ≡ true
threads_are_calls t n x =
    both_true (list_all is_call (statements_of t n x)) _ (statements_are_calls t n x)
    (both_true (list_all is_call (statements_of t n (after n x))) true (statements_are_calls t n (after n x)) refl)

targets_are_calls : (t n calls x : ℕ) → list_all (λ target. list_all (λ statements. list_all is_call statements) target.threads) (targets_of t n calls x) ≡ true
targets_are_calls t zero calls x = refl
targets_are_calls t (suc n) calls x =
    both_true (list_all (λ statements. list_all is_call statements) (threads_of t calls x)) _ (threads_are_calls t calls x)
    (targets_are_calls (t + 1) n calls (after calls (after calls x)))

pub script_is_calls : (seed targets calls : ℕ) → are_calls (script_of seed targets calls) ≡ true
script_is_calls seed targets calls = targets_are_calls 0 targets calls seed

-- ---- the report of a run of a generated script

pub made_report : (seed targets calls : ℕ) (policies : List Policy) (script : Script) (report : Report) → AreMade policies → script ≡ script_of seed targets calls
    → IsSomeRun policies script report → IsMadeReport seed targets calls report
made_report seed targets calls policies script report made same some =
    subst (λ p. IsSomeRun p (script_of seed targets calls) report) (are_made policies made) (subst (λ s. IsSomeRun policies s report) same some)

pub made_totals : TotalsAreOfVerdicts → RunsAreSound → (seed targets calls : ℕ) (policies : List Policy) (script : Script) (report : Report)
    → AreMade policies → script ≡ script_of seed targets calls → AllClean script → IsSomeRun policies script report
    → made_line targets calls ++ totals_line report ≡ made_text seed targets calls
unfolding made_text
made_totals law sound seed targets calls policies script report made same clean some =
    let all : are_calls script ≡ true = subst (λ s. are_calls s ≡ true) (sym same) (script_is_calls seed targets calls) in
    let totals = law policies script report some.can.ready all clean (some_run_fits sound policies script report some) in
    ap (λ line. made_line targets calls ++ line)
    (totals ∙ (ap (λ p. totals_by p script) (are_made policies made) ∙ ap (λ s. totals_by made_policies s) same))

-- ---- the same of what a run gives that may run out of memory

pub made_reports : {E : Type 0} (seed targets calls : ℕ) (policies : List Policy) (script : Script) (result : Result Report E) → AreMade policies
    → script ≡ script_of seed targets calls → IfOk result (λ r. IsSomeRun policies script r)
    → IfOk result (λ r. IsMadeReport seed targets calls r)
made_reports seed targets calls policies script (Ok report) made same some = made_report seed targets calls policies script report made same some
made_reports seed targets calls policies script (Err error) made same some = some

pub made_lines : {E : Type 0} → TotalsAreOfVerdicts → RunsAreSound → (seed targets calls : ℕ) (policies : List Policy) (script : Script) (result : Result Report E)
    → AreMade policies → script ≡ script_of seed targets calls → AllClean script
    → IfOk result (λ r. IsSomeRun policies script r) → IfOk result (λ r. made_line targets calls ++ totals_line r ≡ made_text seed targets calls)
made_lines law sound seed targets calls policies script (Ok report) made same clean some =
    made_totals law sound seed targets calls policies script report made same clean some
made_lines law sound seed targets calls policies script (Err error) made same clean some = some

-- ---- the end of the command

-- the two lines of a report that was made are those of its order of steps
pub made_end_of : (seed targets calls : ℕ) (report : Report) (text : List ℕ) → text ≡ made_text seed targets calls → IsMadeReport seed targets calls report
    → IsMadeEnd seed targets calls (record { text = Some text; status = Done; report = Some report; notes = None })
unfolding whole_run
made_end_of seed targets calls report text same some = record {
  order = some.schedule;
  is_order = record { can = some.can; no_rounds = some.no_rounds; finished = some.finished };
  is = λ i. record { text = Some (same i); status = Done; report = Some (some.is i); notes = None };
}

-- the end of a run of the script that is made, as what the command comes to
made_found : (seed targets calls : ℕ) (held : Option Held) (end : ReportedEnd) → IsMadeEnd seed targets calls end
    → IsFoundOnThreads (make_end seed targets calls) [] held (Ok end)
made_found seed targets calls held end e = record { order = e.order; contents = []; are = tt; ordered = λ k. e.is_order; is = e.is }

-- or there was no memory for it
pub makes_found : {E : Type 0} (seed targets calls : ℕ) (held : Option Held) (names : List (List ℕ)) (made : Result ReportedEnd E) → names ≡ []
    → IfOk made (IsMadeEnd seed targets calls) → IsFoundOnThreads (make_end seed targets calls) names held (end_or_refusal made)
makes_found seed targets calls held names (Ok end) none e =
    subst (λ n. IsFoundOnThreads (make_end seed targets calls) n held (Ok end)) (sym none) (made_found seed targets calls held end e)
makes_found seed targets calls held names (Err error) none e = starved (OnThreads (make_end seed targets calls)) names held (refused NoMemory) refl

-- ---- its statuses, and its runs

pub make_suited : (seed targets calls : ℕ) → AreSuited 0 (OnThreads (make_end seed targets calls))
make_suited seed targets calls order [] e = tt
make_suited seed targets calls order (c ∷ cs) e = cc

pub make_sound : RunsAreSound → (seed targets calls : ℕ) → AreEndsSound (OnThreads (make_end seed targets calls))
make_sound law seed targets calls order [] end e is =
    let same = same_end (made_end seed targets calls order) end e in
    let mine : IsOrderOf order (made_end seed targets calls order) = subst (IsOrderOf order) (sym same) is in
    subst (λ (x : End). IfSome x.run IsSound) same (law _ _ order mine.can)
make_sound law seed targets calls order (c ∷ cs) end e is = cc
