-- What each world of a script keeps beside its type: the rule for each target, and of each thread that it gives up no clean channel, that a wait makes the
-- loads of its statement, and that each result suits its statement.
use Rattle.std.proofs.Common.{◌≡◌, ◌∙◌, refl, ap, subst, sym, ℕ, ◌<◌, Bool, List, [], ◌++◌, length, Some, IfSome, slice_get}
use Rattle.sb_core.proofs.Names.{AreInRule, AreViews, channels_of, clean_channels, drained, first_runs, first_worker, first_workers, free_channels, GivesUp, InRule, IsOfScript, IsReady, mark_at, no_run, no_worker, on_word, option_to_list, played, Policy, RuleHolds, RuleLaws, run_at, RunAt, RunsKeepRule, Script, SoundStatements, SoundTargets, start_world, Statement, statement_at, step, steps, Suits, Thread, thread_after, thread_count, thread_plan, thread_start, threads_at, worker_at, worker_step, WorldAt, WorldsOfScriptsKeepRule}
use Rattle.sb_core.proofs.Belonging.{leads_of, of_end, of_run, Keeps, holds_on}
use Rattle.sb_core.proofs.Opening.{opening_views}
use Rattle.sb_core.proofs.Reaching.{EachResult, one_more}
use Rattle.sb_core.proofs.Sets.{each_set}
use Rattle.sb_core.proofs.Starting.{each_is, runs_of, start_run, words_at, so_many}
use Rattle.sb_core.proofs.Existence.{as_many, listed, HasUnits, units_are_placed}
use Rattle.sb_core.proofs.ThreadRuling.{thread_rules, step_result}
use Rattle.sb_core.proofs.ThreadResults.{Waits, waits_first}
use Rattle.sb_core.proofs.WorkerRuling.{worker_rules}
use Rattle.sb_core.proofs.Numbers.{none_of}

-- each result of a thread suits the statement at its place
abbrev pub RunSuits : Script → ℕ → ℕ → RunAt → Type 0
RunSuits script t k x = EachResult (λ t k i s r. Suits (clean_channels script t) (mark_at k i) s r) script t k x

pub record Ruled (script : Script) (w : WorldAt) : Type 0 where
  pub gives : (t k : ℕ) → k < length (threads_at w t) → GivesUp (run_at w t k).thread.clean (run_at w t k).thread.stage
  pub waits : (t k : ℕ) → k < length (threads_at w t) → Waits script (run_at w t k).thread (run_at w t k).thread.stage
  pub suits : (t k : ℕ) → k < length (threads_at w t) → RunSuits script t k (run_at w t k)
  pub rule : (t : ℕ) → t < length w.workers → InRule script w t

module _ (laws : RuleLaws) (targets : SoundTargets) (statements : SoundStatements) (script : Script) where
  -- at the start
  ruled_start : (policies : List Policy) → IsReady policies script → Ruled script (start_world policies script)
  ruled_start policies h = record {
    gives = λ t k l. subst (λ (x : RunAt). GivesUp x.thread.clean x.thread.stage) (sym (start_run targets statements policies script h t k l)) (laws.gives_up.0 script t k);
    waits = λ t k l. subst (λ (x : RunAt). Waits script x.thread x.thread.stage) (sym (start_run targets statements policies script h t k l))
        (waits_first script (thread_start script t k) (statement_at script t k 0) refl);
    suits = λ t k l i r e. absurd (none_of i r (ap (λ (x : RunAt). slice_get x.results i) (sym (start_run targets statements policies script h t k l)) ∙ e));
    rule = λ t l. opens t (subst (λ n. t < n) (so_many (first_worker script.targets) (first_workers script.targets) refl (λ n. refl) (length script.targets)) l);
  }
    where
      opens : (t : ℕ) → t < length script.targets → InRule script (start_world policies script) t
      opens t l =
          let v = opening_views laws script t (thread_count (slice_get script.targets t)) in (
            v.0,
            subst (λ (q : List ℕ × List RunAt). AreViews script t q.0 [] (worker_at (start_world policies script) t) q.1 v.0)
                (λ j. (sym (words_at script.targets t) j, sym (runs_of targets statements policies script h t l) j))
                (subst (λ q. AreViews script t (free_channels (channels_of (slice_get script.targets t))) [] q (first_runs script t (thread_count (slice_get script.targets t))) v.0)
                (sym (each_is (first_worker script.targets) (first_workers script.targets) refl (λ n. refl) (length script.targets) t no_worker l)) v.1),
          )

  ruled_worker : (w : WorldAt) (t : ℕ) → Keeps script (Ruled script) w → t < length w.workers → Ruled script (worker_step w t)
  ruled_worker w t r there = record { gives = r.has.gives; waits = r.has.waits; suits = r.has.suits; rule = worker_rules laws script w t r.kept there r.has.rule }

  module _ (units : HasUnits script) where
    ruled_thread : (w : WorldAt) (t k : ℕ) → Keeps script (Ruled script) w → k < length (threads_at w t) → Ruled script (step script w (Thread t k))
    ruled_thread w t k r there =
        let x = r.kept.threads t k there in
        let y = (run_at w t k).thread in
        let seen = (on_word w.shared (thread_plan script y)).seen in
        let next = thread_after script y seen in
        let told = step_result laws statements targets script units w t k r.kept r.runs r.has.rule there (r.has.gives t k there) (r.has.waits t k there) in
        let own = subst (λ (z : List Bool). IfSome next.ended (λ r. (s : Statement) × (statement_at script y.target y.thread y.place ≡ Some s) × Suits z (mark_at y.thread y.place) s r))
        (r.runs.stands t k there).clean told.suits in
        let z : RunAt = record { thread = next.thread; results = (run_at w t k).results ++ option_to_list next.ended } in
        let here = listed w.threads t k there in
        record {
          gives = each_set (λ u j (q : RunAt). GivesUp q.thread.clean q.thread.stage) no_run w.threads t k z here there r.has.gives
              (laws.gives_up.1 script y seen (r.has.gives t k there));
          waits = each_set (λ u j (q : RunAt). Waits script q.thread q.thread.stage) no_run w.threads t k z here there r.has.waits told.waits;
          suits = each_set (RunSuits script) no_run w.threads t k z here there r.has.suits
              (one_more (λ t k i s r. Suits (clean_channels script t) (mark_at k i) s r) script t k (run_at w t k) next.ended x.its_target x.its_number x.counted
              (r.has.suits t k there) own);
          rule = thread_rules laws statements targets script units w t k r.kept r.runs r.has.rule there (r.has.gives t k there) (r.has.waits t k there);
        }

  -- each world of the script
  pub ruled_of : (w : WorldAt) → IsOfScript script w → Keeps script (Ruled script) w
  ruled_of w o =
      holds_on targets statements script (Ruled script) ruled_worker (ruled_thread (units_are_placed script o.ready.units)) o.policies o.ready (ruled_start o.policies o.ready) w
      (leads_of script w o)

  -- each target of such a world
  rule_of : (w : WorldAt) → Keeps script (Ruled script) w → AreInRule script w
  rule_of w r t l = r.has.rule t (subst (λ n. t < n) (sym (as_many script w r.kept r.runs)) l)

-- each target of each world of a script
pub rules_of : RuleLaws → SoundTargets → SoundStatements → WorldsOfScriptsKeepRule
rules_of laws targets statements script w o = rule_of laws targets statements script w (ruled_of laws targets statements script w o)

pub rule_holds : RuleLaws → SoundTargets → SoundStatements → RuleHolds
rule_holds laws targets statements policies script actors ready there =
    rules_of laws targets statements script (steps script actors (start_world policies script))
    (record { policies = policies; actors = actors; ready = ready; there = there; reached = refl })

pub runs_keep_rule : RuleLaws → SoundTargets → SoundStatements → RunsKeepRule
runs_keep_rule laws targets statements policies script schedule can = (
  rules_of laws targets statements script (played policies script schedule) (of_run policies script schedule can),
  rules_of laws targets statements script (drained (played policies script schedule)) (of_end targets statements policies script schedule can),
)
