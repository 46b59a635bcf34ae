-- A thread's step within a call is one that a thread in its view may make, and the view goes on as the thread does.
use Rattle.std.specs.Prelude.{◌≡◌, ℕ, Bool, false, List, length, Some}
use Rattle.sb_actor.specs.Following.{act_word, act_wrote, Tells}
use Rattle.sb_actor.specs.Moves.{IsBlock, is_clean, Deed, met, wrote, thread_view, ThreadMay}
use Rattle.sb_actor.specs.Places.{thread_start}
use Rattle.sb_actor.specs.Ranges.{IsSoundThreadStage}
use Rattle.sb_actor.specs.Ties.{thread_deed, HoldsThread}
use Rattle.sb_actor.specs.ThreadStages.{ThreadStage, Try, Fill, Send, Wait, Fetch, Free, Abandon, Stray, Over, ThreadAt}
use Rattle.sb_actor.specs.ThreadTable.{thread_plan, thread_after}
use Rattle.sb_actor.specs.Observations.{Observation}
use Rattle.sb_actor.specs.Views.{ThreadView}
use Rattle.sb_statements.specs.declared.scripts.Script.{Script}

-- a channel that the thread gives up is not clean
abbrev pub GivesUp : List Bool → ThreadStage → Type 0
GivesUp clean (Abandon c) = is_clean clean c ≡ false
GivesUp clean _ = Unit {0}

-- a step of a kind that found n, as for the worker
pub record ThreadGoes (script : Script) (v : ThreadView) (x : ThreadAt) (d : Deed) (n : ℕ) (seen : Observation) : Type 0 where
  pub may : ThreadMay v v.place (act_word (thread_plan script x)) d
  pub writes : act_wrote (thread_plan script x) n ≡ wrote d (met d n) n
  pub holds : HoldsThread (thread_view v d n) (thread_after script x seen).thread

abbrev pub ThreadFollows : Type 0
ThreadFollows = (script : Script) (v : ThreadView) (x : ThreadAt) (d : Deed) (n : ℕ) (seen : Observation) → HoldsThread v x
    → IsSoundThreadStage (length x.clean) x.patience x.block x.stage → IsBlock x.thread x.block → GivesUp x.clean x.stage
    → thread_deed x.block x.stage ≡ Some d → Tells (thread_plan script x) n seen → ThreadGoes script v x d n seen

-- a thread gives up no clean channel: it does not at its beginning, and each step keeps that
abbrev pub GivingUpIsKept : Type 0
GivingUpIsKept =
    ((script : Script) (target number : ℕ) → GivesUp (thread_start script target number).clean (thread_start script target number).stage)
    × ((script : Script) (x : ThreadAt) (seen : Observation) → GivesUp x.clean x.stage → GivesUp (thread_after script x seen).thread.clean (thread_after script x seen).thread.stage)
