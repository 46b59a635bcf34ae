-- What each world of a run keeps beside its type: a legal book of the run's setting, and results that are each those of the statement at their place.
use Rattle.std.proofs.Common.{◌≡◌, ◌∙◌, ⊎_elim, refl, ap, subst, sym, ℕ, ◌<◌, List, [], ◌∷◌, ◌++◌, length, Option, None, Some, IfSome, slice_get, true}
use Rattle.sb_core.proofs.Names.{Answer, AnswersKeepHistories, is_result_of, IsHistory, IsReady, IsSoundStage, no_run, on_word, on_worker, option_to_list, Policy, run_at, RunAt, Script, Setting, setting_of, slice_index, SoundStatements, SoundTargets, start_world, Statement, statement_at, step, StmtResult, target_decision, Thread, thread_after, thread_plan, threads_at, worker_at, worker_plan, worker_step, WorkerAt, WorkerStage, WorldAt}
use Rattle.sb_core.proofs.WorkerKeeping.{worker_setting}
use Rattle.sb_core.proofs.Sets.{each_set, behind}
use Rattle.sb_core.proofs.Stepping.{Leads}
use Rattle.sb_core.proofs.Existence.{listed, worker_channel, worker_policy}
use Rattle.sb_core.proofs.ThreadKeeping.{facts, thread_book}
use Rattle.sb_core.proofs.Numbers.{none_some, some_same, none_of}
use Rattle.sb_core.proofs.Belonging.{Keeps, holds_on}
use Rattle.sb_core.proofs.Starting.{start_run}

-- each result of a thread is one of the statement at its place, and has this with it
abbrev pub EachResult : (ℕ → ℕ → ℕ → Statement → StmtResult → Type 0) → Script → ℕ → ℕ → RunAt → Type 0
EachResult Q script t k x = (i : ℕ) (r : StmtResult) → slice_get x.results i ≡ Some r → (s : Statement) × (statement_at script t k i ≡ Some s) × Q t k i s r

-- so it is with a result more that has it
pub one_more : (Q : ℕ → ℕ → ℕ → Statement → StmtResult → Type 0) (script : Script) (t k : ℕ) (x : RunAt) (ended : Option StmtResult)
    → x.thread.target ≡ t → x.thread.thread ≡ k → length x.results ≡ x.thread.place → EachResult Q script t k x
    → IfSome ended (λ r. (s : Statement) × (statement_at script x.thread.target x.thread.thread x.thread.place ≡ Some s) × Q x.thread.target x.thread.thread x.thread.place s r)
    → (i : ℕ) (r : StmtResult) → slice_get (x.results ++ option_to_list ended) i ≡ Some r → (s : Statement) × (statement_at script t k i ≡ Some s) × Q t k i s r
one_more Q script t k x ended et ek counted each own i r e = ⊎_elim (λ h. each i r h) (λ h. last ended own h) (behind x.results ended i r e)
  where
    last : (ended : Option StmtResult)
        → IfSome ended (λ r. (s : Statement) × (statement_at script x.thread.target x.thread.thread x.thread.place ≡ Some s) × Q x.thread.target x.thread.thread x.thread.place s r)
        → (i ≡ length x.results) × (ended ≡ Some r) → (s : Statement) × (statement_at script t k i ≡ Some s) × Q t k i s r
    last None own h = absurd (none_some r h.1)
    last (Some q) own h =
        subst (λ (z : ℕ × ℕ × ℕ × StmtResult). (s : Statement) × (statement_at script z.0 z.1 z.2 ≡ Some s) × Q z.0 z.1 z.2 s z.3)
        (λ j. (et j, ek j, sym (h.0 ∙ counted) j, some_same q r h.1 j)) own

-- each result of a thread is that of the statement at its place
abbrev pub RunFits : Script → ℕ → ℕ → RunAt → Type 0
RunFits script t k x = EachResult (λ t k i s r. is_result_of s r ≡ true) script t k x

pub record Good (script : Script) (setting : Setting) (w : WorldAt) : Type 0 where
  pub setting_is : w.shared.book.setting ≡ setting
  pub history : IsHistory w.shared.book
  pub fits : (t k : ℕ) → k < length (threads_at w t) → RunFits script t k (run_at w t k)

module _ (statements : SoundStatements) (answers : AnswersKeepHistories) (script : Script) (setting : Setting) where
  -- the book after a step of a worker
  pub history_after : (w : WorldAt) (t : ℕ) (x : WorkerAt) → IsHistory w.shared.book → t < length w.shared.book.setting.policies
      → x.channel < slice_index w.shared.book.setting.channels t → (stage : WorkerStage) → IsSoundStage stage
      → IsHistory (on_worker w.shared t (record x { stage = stage }) (worker_plan (record x { stage = stage }))).shared.book
  history_after w t x h p c (Answer taken) s = answers w.shared.book t x.channel taken (target_decision w.shared.book t taken) p c s refl h
  history_after w t x h p c _ s = h

  good_worker : (w : WorldAt) (t : ℕ) → Keeps script (Good script setting) w → t < length w.workers → Good script setting (worker_step w t)
  good_worker w t h there = record {
    setting_is = worker_setting w t h.kept there ∙ h.has.setting_is;
    history = history_after w t (worker_at w t) h.has.history (worker_policy w t h.kept there) (worker_channel w t h.kept there) (worker_at w t).stage
        (h.kept.workers t there).sound;
    fits = h.has.fits;
  }

  good_thread : (w : WorldAt) (t k : ℕ) → Keeps script (Good script setting) w → k < length (threads_at w t) → Good script setting (step script w (Thread t k))
  good_thread w t k h there =
      let book = thread_book script w t k h.kept h.runs there statements in
      let x = h.kept.threads t k there in
      let told = facts script w t k h.kept h.runs there statements in
      let next = thread_after script (run_at w t k).thread (on_word w.shared (thread_plan script (run_at w t k).thread)).seen in
      let y : RunAt = record { thread = next.thread; results = (run_at w t k).results ++ option_to_list next.ended } in
      record {
        setting_is = ap (λ b. b.setting) book ∙ h.has.setting_is;
        history = subst IsHistory (sym book) h.has.history;
        fits = each_set (RunFits script) no_run w.threads t k y (listed w.threads t k there) there h.has.fits
            (one_more (λ t k i s r. is_result_of s r ≡ true) script t k (run_at w t k) next.ended x.its_target x.its_number x.counted (h.has.fits t k there) told.own);
      }

-- each world that steps lead to from the start
pub good_on : SoundTargets → SoundStatements → AnswersKeepHistories → (policies : List Policy) (script : Script) → IsReady policies script → (w : WorldAt)
    → Leads script (start_world policies script) w → Keeps script (Good script (setting_of policies script)) w
good_on targets statements answers policies script ready w leads =
    holds_on targets statements script (Good script (setting_of policies script)) (good_worker statements answers script (setting_of policies script))
    (good_thread statements answers script (setting_of policies script)) policies ready (record {
      setting_is = refl;
      history = record { legal = tt; led = refl };
      fits = λ t k l i r e. absurd (none_of i r (ap (λ (x : RunAt). slice_get x.results i) (sym (start_run targets statements policies script ready t k l)) ∙ e));
    }) w leads
