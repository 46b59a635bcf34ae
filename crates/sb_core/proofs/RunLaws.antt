-- What holds of whole runs.
use Rattle.std.proofs.Common.{◌≡◌, ◌∙◌, refl, ap, subst, sym, ℕ, zero, suc, ◌*◌, ◌<◌, ◌≤◌, Bool, true, false, ltb, not, ◌&&◌, if◌then◌else◌, List, [], ◌∷◌, length, map, get_or, Option, None, Some, slice_get, arith}
use Rattle.sb_core.specs.Runs.{ended}
use Rattle.sb_core.specs.declared.runs.Ran.{Ran}
use Rattle.sb_core.proofs.Reaching.{Good, good_on, EachResult, RunFits}
use Rattle.sb_core.proofs.Stepping.{leads_drain, leads_run, leads_on}
use Rattle.sb_core.proofs.Existence.{as_many, targets_there, at_statement}
use Rattle.sb_core.proofs.Numbers.{none_of, none_some}
use Rattle.std.proofs.lemmas.List.{get_or_past}
use Rattle.sb_core.proofs.Names.{AnswersKeepHistories, AreAllResults, CanRun, channels_of, drained, DrainsSettle, FinishedRunsAreWhole, first_unfinished, get_or-map, is_finished, is_looking, is_result_of, IsHistory, IsRunning, IsWorld, length-map, list_all, nat_le, nat_tests, no_run, or_else, played, Policy, result_at, results_of, ResultsFit, run_at, RunAt, RunsAreLegal, RunsHaveResults, RunsKeepWords, Schedule, Script, setting_of, slice_get-get_or, slice_get_within, some_ready, SoundStatements, SoundTargets, start_world, Statement, statement_at, statements_of, StmtResult, TargetScript, thread_count, threads_at, unfinished_of, WorldAt}
use Rattle.sb_statements.specs.declared.results.StmtResult.TheVariants.{Stored}
use Rattle.sb_core.proofs.Belonging.{Keeps}

module _ (targets_law : SoundTargets) (statements_law : SoundStatements) (answers : AnswersKeepHistories) (policies : List Policy) (script : Script) (schedule : Schedule)
    (can : CanRun policies script schedule) where
  abbrev end_world : WorldAt
  end_world = played policies script schedule

  pub good_played : Keeps script (Good script (setting_of policies script)) end_world
  good_played = good_on targets_law statements_law answers policies script can.ready end_world (leads_run script policies schedule can)

  pub good_end : Keeps script (Good script (setting_of policies script)) (drained end_world)
  good_end =
      good_on targets_law statements_law answers policies script can.ready (drained end_world)
      (leads_on script (start_world policies script) end_world (drained end_world) (leads_run script policies schedule can)
      (leads_drain script end_world good_played.kept good_played.runs))

  -- by whether a thread is unfinished
  by_end : (P : Ran → Type 0) → P (ended end_world None) → ((thread : ℕ × ℕ) → P (ended end_world (Some thread))) → (o : Option (ℕ × ℕ)) → P (ended end_world o)
  by_end P none some None = none
  by_end P none some (Some thread) = some thread

  legal_of : (w : WorldAt) → Keeps script (Good script (setting_of policies script)) w
      → IsHistory (record { setting = setting_of policies script; space = w.shared.book.space; entries = w.shared.book.entries })
  legal_of w good = subst (λ z. IsHistory (record { setting = z; space = w.shared.book.space; entries = w.shared.book.entries })) good.has.setting_is good.has.history

-- the result at a place is that of the thread
pub results_at : (threads : List (List RunAt)) (t k i : ℕ) → result_at (results_of threads) t k i ≡ slice_get (get_or (get_or threads t []) k no_run).results i
results_at threads t k i =
    ap (λ (rows : List (List StmtResult)). slice_get (get_or rows k []) i) (get_or-map (λ (runs : List RunAt). map (λ (x : RunAt). x.results) runs) threads t [])
    ∙ ap (λ (results : List StmtResult). slice_get results i) (get_or-map (λ (x : RunAt). x.results) (get_or threads t []) k no_run)

-- a thread that is not there has no results
pub no_run_past : (runs : List RunAt) (k : ℕ) → length runs ≤ k → get_or runs k no_run ≡ no_run
no_run_past runs k l = get_or_past runs k no_run l

-- so what each result has with it holds of the result at each place of the report
pub of_report : (Q : ℕ → ℕ → ℕ → Statement → StmtResult → Type 0) (script : Script) (threads : List (List RunAt))
    → ((t k : ℕ) → k < length (get_or threads t []) → EachResult Q script t k (get_or (get_or threads t []) k no_run))
    → (t k i : ℕ) (r : StmtResult) → result_at (results_of threads) t k i ≡ Some r → (s : Statement) × (statement_at script t k i ≡ Some s) × Q t k i s r
of_report Q script threads each t k i r e = by_test (ltb k (length (get_or threads t []))) refl
  where
    found : slice_get (get_or (get_or threads t []) k no_run).results i ≡ Some r
    found = sym (results_at threads t k i) ∙ e

    by_test : (b : Bool) → ltb k (length (get_or threads t [])) ≡ b → (s : Statement) × (statement_at script t k i ≡ Some s) × Q t k i s r
    by_test true f = let there : k < length (get_or threads t []) = grind (arith, nat_tests) in each t k there i r found
    by_test false f =
        let past : length (get_or threads t []) ≤ k = grind (arith, nat_tests) in
        absurd (none_of i r (ap (λ (x : RunAt). slice_get x.results i) (sym (no_run_past (get_or threads t []) k past)) ∙ found))

results_fit : (script : Script) (threads : List (List RunAt)) → ((t k : ℕ) → k < length (get_or threads t []) → RunFits script t k (get_or (get_or threads t []) k no_run))
    → ResultsFit script (results_of threads)
results_fit script threads fits = of_report (λ t k i s r. is_result_of s r ≡ true) script threads fits

-- if no thread is unfinished each is finished
module _ (script : Script) where
  first_none : (a b : Option (ℕ × ℕ)) → or_else a b ≡ None → (a ≡ None) × (b ≡ None)
  first_none None b e = (refl, e)
  first_none (Some x) b e = absurd (cc)

  finished_if : (b : Bool) (x : ℕ × ℕ) (o : Option (ℕ × ℕ)) → (if b then o else Some x) ≡ None → (b ≡ true) × (o ≡ None)
  finished_if true x o e = (refl, e)
  finished_if false x o e = absurd (cc)

  finished_run : (runs : List RunAt) → unfinished_of script runs ≡ None → (k : ℕ) → k < length runs → is_finished script (get_or runs k no_run).thread ≡ true
  finished_run [] e k l = absurd (omega arith)
  finished_run (x ∷ runs) e zero l = (finished_if (is_finished script x.thread) (x.thread.target, x.thread.thread) (unfinished_of script runs) e).0
  finished_run (x ∷ runs) e (suc k) l =
      finished_run runs (finished_if (is_finished script x.thread) (x.thread.target, x.thread.thread) (unfinished_of script runs) e).1 k (omega (arith, l))

  pub each_finished : (threads : List (List RunAt)) → first_unfinished script threads ≡ None → (t k : ℕ) → k < length (get_or threads t [])
      → is_finished script (get_or (get_or threads t []) k no_run).thread ≡ true
  each_finished [] e t k l = absurd (omega arith)
  each_finished (runs ∷ threads) e zero k l = finished_run runs (first_none (unfinished_of script runs) (first_unfinished script threads) e).0 k l
  each_finished (runs ∷ threads) e (suc t) k l = each_finished threads (first_none (unfinished_of script runs) (first_unfinished script threads) e).1 t k l

-- a statement is one of a thread that is there
thread_of_statement : (script : Script) (t k i : ℕ) (s : Statement) → statement_at script t k i ≡ Some s → k < thread_count (slice_get script.targets t)
thread_of_statement script t k i s e =
    at_statement (λ o. o ≡ Some s → k < thread_count (slice_get script.targets t)) script t k i (λ q. absurd (none_some s q))
    (λ target statements z f g q same. subst (λ o. k < thread_count o) (sym f) (slice_get_within target.threads k statements g)) e

-- each statement of a finished world has its result
all_results : (script : Script) (w : WorldAt) → IsWorld w → IsRunning script w → first_unfinished script w.threads ≡ None
    → (t k i : ℕ) (s : Statement) → statement_at script t k i ≡ Some s → (r : StmtResult) × (result_at (results_of w.threads) t k i ≡ Some r)
all_results script w kept runs none t k i s e =
    let there : k < length (threads_at w t) = subst (λ n. k < n) (sym (runs.threads t)) (thread_of_statement script t k i s e) in
    let x = run_at w t k in
    let its = kept.threads t k there in
    let over = each_finished script w.threads none t k there in
    let high : length (statements_of script x.thread.target x.thread.thread) ≤ x.thread.place = at_most (length (statements_of script x.thread.target x.thread.thread)) x.thread.place over in
    let same : statements_of script x.thread.target x.thread.thread ≡ statements_of script t k =
    ap (λ (z : ℕ × ℕ). statements_of script z.0 z.1) (λ j. (its.its_target j, its.its_number j)) in
    let low = slice_get_within (statements_of script t k) i s e in
    let lengths : length (statements_of script x.thread.target x.thread.thread) ≡ length (statements_of script t k) = ap (λ (l : List Statement). length l) same in
    let counted = its.counted in
    let found = slice_get-get_or x.results i Stored (omega (arith, high, low, lengths, counted)) in
    (get_or x.results i Stored, results_at w.threads t k i ∙ found)
  where
    at_most : (a b : ℕ) → nat_le a b ≡ true → a ≤ b
    at_most a b e = grind (arith, nat_tests)

-- the sizes of the words of a world that runs a script
pub sized_all : (targets : List TargetScript) (words : List (List ℕ)) → length words ≡ length targets
    → ((t : ℕ) → t < length targets → length (get_or words t []) ≡ channels_of (slice_get targets t) * 65)
    → map (λ (ws : List ℕ). length ws) words ≡ map (λ target. target.channels * 65) targets
sized_all [] [] e h = refl
sized_all [] (ws ∷ words) e h = absurd (omega (arith, e))
sized_all (x ∷ xs) [] e h = absurd (omega (arith, e))
sized_all (x ∷ xs) (ws ∷ words) e h =
    let first : length ws ≡ x.channels * 65 = h 0 (omega arith) in
    let rest = sized_all xs words (omega (arith, e)) (λ t l. h (suc t) (omega (arith, l))) in
    λ k. first k ∷ rest k

words_kept : (script : Script) (w : WorldAt) → IsWorld w → IsRunning script w
    → map (λ words. length words) w.shared.words ≡ map (λ target. target.channels * 65) script.targets
words_kept script w kept runs =
    sized_all script.targets w.shared.words (kept.words ∙ as_many script w kept runs) (λ t l. (targets_there script w kept runs t l).sized)

-- there is a list of results for each thread of each target
lists_of_targets : (threads : List (List RunAt)) → length (results_of threads) ≡ length threads
lists_of_targets threads = length-map threads (λ (runs : List RunAt). map (λ (x : RunAt). x.results) runs)

lists_of_threads : (threads : List (List RunAt)) (t : ℕ) → length (get_or (results_of threads) t []) ≡ length (get_or threads t [])
lists_of_threads threads t =
    ap (λ (rows : List (List StmtResult)). length rows) (get_or-map (λ (runs : List RunAt). map (λ (x : RunAt). x.results) runs) threads t [])
    ∙ length-map (get_or threads t []) (λ (x : RunAt). x.results)

pub runs_are_legal : SoundTargets → SoundStatements → AnswersKeepHistories → RunsAreLegal
runs_are_legal targets statements answers policies script schedule can =
    let w = played policies script schedule in
    by_end targets statements answers policies script schedule can
    (λ ran. IsHistory (record { setting = setting_of policies script; space = ran.report.kernel; entries = ran.report.entries }))
    (legal_of targets statements answers policies script schedule can (drained w) (good_end targets statements answers policies script schedule can))
    (λ thread. legal_of targets statements answers policies script schedule can w (good_played targets statements answers policies script schedule can))
    (first_unfinished script w.threads)

pub runs_have_results : SoundTargets → SoundStatements → AnswersKeepHistories → RunsHaveResults
runs_have_results targets statements answers policies script schedule can =
    let w = played policies script schedule in
    let fits = results_fit script w.threads (good_played targets statements answers policies script schedule can).has.fits in
    by_end targets statements answers policies script schedule can (λ ran. ResultsFit script ran.report.results) fits (λ thread. fits) (first_unfinished script w.threads)

pub runs_keep_words : SoundTargets → SoundStatements → AnswersKeepHistories → RunsKeepWords
runs_keep_words targets statements answers policies script schedule can =
    let w = played policies script schedule in
    let last = good_end targets statements answers policies script schedule can in
    let now = good_played targets statements answers policies script schedule can in
    by_end targets statements answers policies script schedule can
    (λ ran. map (λ words. length words) ran.report.words ≡ map (λ target. target.channels * 65) script.targets)
    (words_kept script (drained w) last.kept last.runs) (λ thread. words_kept script w now.kept now.runs) (first_unfinished script w.threads)

-- in a settled world no state word is 3
pub nothing_ready : (a b : Bool) → (a && not b) ≡ true → b ≡ false
nothing_ready true true e = absurd (cc)
nothing_ready true false e = refl
nothing_ready false b e = absurd (cc)

pub finished_runs_are_whole : SoundTargets → SoundStatements → AnswersKeepHistories → DrainsSettle → FinishedRunsAreWhole
finished_runs_are_whole targets statements answers settles policies script schedule can =
    by_finish (first_unfinished script (played policies script schedule).threads) refl
  where
    by_finish : (o : Option (ℕ × ℕ)) → first_unfinished script (played policies script schedule).threads ≡ o → (ended (played policies script schedule) o).unfinished ≡ None
        → AreAllResults script (ended (played policies script schedule) o).report.results × (some_ready (ended (played policies script schedule) o).report.words ≡ false)
    by_finish None e u =
        let w = played policies script schedule in
        let now = good_played targets statements answers policies script schedule can in (
          record {
            targets = lists_of_targets w.threads ∙ now.runs.targets;
            threads = λ t. lists_of_threads w.threads t ∙ now.runs.threads t;
            fit = results_fit script w.threads now.has.fits;
            each = all_results script w now.kept now.runs e;
          },
          nothing_ready (list_all (λ worker. is_looking worker.stage) (drained w).workers) (some_ready (drained w).shared.words) (settles w now.kept),
        )
    by_finish (Some thread) e u = absurd (cc)
