-- A run by threads is a run of the core.
use Rattle.std.specs.Prelude.{◌≡◌, List, None, All}
use Rattle.sb_actor.specs.WorkerStages.{WorkerAt, Look}
use Rattle.sb_book.specs.Readiness.{IsReady}
use Rattle.sb_statements.specs.declared.schedules.Schedule.{Schedule}
use Rattle.sb_core.specs.Runs.{CanFinish, CanRun, finished, ran}
use Rattle.sb_shared.specs.Closing.{AreFinished, IsClosed}
use Rattle.sb_shared.specs.Seats.{ThreadSeatValue, WorkerSeatValue}
use Rattle.sb_shared.specs.declared.closings.ClosedRun.{ClosedRun}
use Rattle.sb_shared.specs.declared.views.Origin.{Origin}

-- each of these workers is looking
abbrev pub AreLooking : List WorkerAt → Type 0
AreLooking workers = All (λ x. x.stage ≡ Look) workers

-- Some schedule of actors that are there, without rounds, leaves no thread unfinished; `finish` can be called with these parts, and its report
-- is that of a run by this schedule
pub record IsRun (key : Origin) (run : ClosedRun) : Type 0 where
  pub schedule : Schedule
  pub can : CanRun key.policies.value.list key.script.value schedule
  pub no_rounds : schedule.rounds ≡ 0
  pub unfinished : (ran key.policies.value.list key.script.value schedule).unfinished ≡ None
  pub finishes : CanFinish key.script.value run.words run.workers.items run.book run.results
  pub report : finished run.words run.workers.items run.book run.results ≡ (ran key.policies.value.list key.script.value schedule).report

-- a closed run in which each thread has ended and each worker is looking is a run of the script by some schedule
abbrev pub ClosedRunsAreRuns : Type 0
ClosedRunsAreRuns = (key : Origin) (workers : List WorkerSeatValue) (seats : List ThreadSeatValue) (run : ClosedRun) → IsReady key.policies.value.list key.script.value
    → IsClosed key workers seats run → AreLooking run.workers.items → AreFinished key seats → IsRun key run
