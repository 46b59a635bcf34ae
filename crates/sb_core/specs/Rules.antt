-- Rule S holds in every world of a script.
use Rattle.std.specs.Prelude.{◌≡◌, ◌<◌, ℕ, true, List, length}
use Rattle.sb_actor.specs.Following.{WorkerFollows}
use Rattle.sb_actor.specs.Laws.{BlocksAreWhole, Starts, StrayKeeps, ThreadKeeps, WorkerKeeps}
use Rattle.sb_actor.specs.ThreadFollowing.{GivingUpIsKept, ThreadFollows}
use Rattle.sb_book.specs.Readiness.{IsReady}
use Rattle.sb_rule.specs.declared.policies.Policy.{Policy}
use Rattle.sb_statements.specs.declared.schedules.Actor.{Actor}
use Rattle.sb_statements.specs.declared.schedules.Schedule.{Schedule}
use Rattle.sb_statements.specs.declared.scripts.Script.{Script}
use Rattle.sb_core.specs.Actors.{are_there}
use Rattle.sb_core.specs.Drains.{drained}
use Rattle.sb_core.specs.OfScripts.{IsOfScript}
use Rattle.sb_core.specs.Runs.{CanRun, played}
use Rattle.sb_core.specs.Views.{InRule}
use Rattle.sb_core.specs.Worlds.{WorldAt, start_world, steps}

-- each target of a world keeps the rule
abbrev pub AreInRule : Script → WorldAt → Type 0
AreInRule script w = (t : ℕ) → t < length script.targets → InRule script w t

-- The rule holds after any list of steps of actors that are there, in the world that a schedule leads to, and after the drain of that, of a
-- script that is ready for the policies
abbrev pub RuleHolds : Type 0
RuleHolds = (policies : List Policy) (script : Script) (actors : List Actor) → IsReady policies script
    → are_there script.targets actors ≡ true → AreInRule script (steps script actors (start_world policies script))

abbrev pub RunsKeepRule : Type 0
RunsKeepRule = (policies : List Policy) (script : Script) (schedule : Schedule) → CanRun policies script schedule
    → AreInRule script (played policies script schedule) × AreInRule script (drained (played policies script schedule))

-- so it holds in each world of a script, whichever steps led there
abbrev pub WorldsOfScriptsKeepRule : Type 0
WorldsOfScriptsKeepRule = (script : Script) (w : WorldAt) → IsOfScript script w → AreInRule script w

-- the laws of the rule over views: it holds at the opening, each step that an actor may make keeps it, and each step of an actor is one of these
pub record RuleLaws : Type 0 where
  pub starts : Starts
  pub thread_keeps : ThreadKeeps
  pub worker_keeps : WorkerKeeps
  pub stray_keeps : StrayKeeps
  pub worker_follows : WorkerFollows
  pub thread_follows : ThreadFollows
  pub gives_up : GivingUpIsKept
  pub blocks : BlocksAreWhole
