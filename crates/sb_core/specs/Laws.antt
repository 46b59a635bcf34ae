-- What holds of every world and of every run.
use Rattle.std.specs.Prelude.{◌≡◌, ◌⊎◌, ◌<◌, ◌≤◌, ℕ, ◌*◌, ◌==◌, true, false, List, ◌++◌, length, map, slice_get, Option, None, Some}
use Rattle.sb_actor.specs.Places.{is_finished}
use Rattle.sb_actor.specs.WorkerStages.{WorkerStage, WorkerAt, Look, Count, End, Copy, Take, Answer, Give, Reply, Ack}
use Rattle.sb_actor.specs.WorkerTable.{worker_plan, worker_after}
use Rattle.sb_actor.specs.Observations.{Observation}
use Rattle.sb_block.specs.Copies.{Copied}
use Rattle.sb_book.specs.Histories.{IsHistory, answered, setting_of, target_decision}
use Rattle.sb_book.specs.Readiness.{IsReady}
use Rattle.sb_rule.specs.declared.policies.Policy.{Policy}
use Rattle.sb_statements.specs.declared.schedules.Actor.{Actor}
use Rattle.sb_statements.specs.declared.schedules.Actor.TheVariants.{Worker, Thread}
use Rattle.sb_statements.specs.declared.schedules.Schedule.{Schedule}
use Rattle.sb_statements.specs.declared.scripts.Script.{Script}
use Rattle.sb_statements.specs.Actors.{is_there}
use Rattle.sb_statements.specs.Soundness.{channels_of}
use Rattle.sb_core.specs.Actors.{are_there, in_turn, round_actors, scheduled, worker_actors}
use Rattle.sb_core.specs.Changes.{Changes, plan_of, is_load}
use Rattle.sb_core.specs.Drains.{IsBeginning, drained, is_settled}
use Rattle.sb_core.specs.Kept.{IsWorld, IsRunning, channels_at, has_turn}
use Rattle.sb_core.specs.Reports.{report_of, results_of}
use Rattle.sb_core.specs.Results.{AreAllResults, ResultsFit}
use Rattle.sb_core.specs.Threads.{first_unfinished}
use Rattle.sb_core.specs.Runs.{CanFinish, CanRun, finished, ran, schedule_of}
use Rattle.sb_core.specs.Shared.{IsActThere}
use Rattle.sb_core.specs.Words.{some_ready, words_of}
use Rattle.sb_core.specs.Worlds.{WorldAt, all_finished, start_world, step, steps, rounds, run_at, threads_at, worker_at}
use Rattle.sb_statements.specs.Words.{words_of_channel}

-- a target of a script in a world that runs it has a worker, and 65 words for each channel; there are at most 8 targets of at most 8 channels
pub record HasTarget (script : Script) (w : WorldAt) (t : ℕ) : Type 0 where
  pub target : t < 8
  pub few : channels_of (slice_get script.targets t) ≤ 8
  pub worker : t < length w.workers
  pub channels : channels_at w t ≡ channels_of (slice_get script.targets t)
  pub listed : t < length w.shared.words
  pub sized : length (words_of w.shared.words t) ≡ channels_of (slice_get script.targets t) * words_of_channel

-- a world that runs a script has each target of it, and no other
abbrev pub WorldsHaveTargets : Type 0
WorldsHaveTargets = (script : Script) (w : WorldAt) → IsWorld w → IsRunning script w
    → (length w.workers ≡ length script.targets) × ((t : ℕ) → t < length script.targets → HasTarget script w t)

-- if the next step of an actor that is there is on a word, that word is there
abbrev pub PlansAreThere : Type 0
PlansAreThere = (script : Script) (w : WorldAt) (actor : Actor) → IsWorld w → IsRunning script w → is_there script.targets actor ≡ true
    → IsActThere w.shared.words (plan_of script w actor)

-- the world of a script that is ready for policies runs the script, and keeps what every world keeps
abbrev pub StartsKeep : Type 0
StartsKeep = (policies : List Policy) (script : Script) → IsReady policies script
    → IsWorld (start_world policies script) × IsRunning script (start_world policies script)

-- so does the world after a step of an actor that is there
abbrev pub StepsKeep : Type 0
StepsKeep = (script : Script) (w : WorldAt) (actor : Actor) → IsWorld w → IsRunning script w → is_there script.targets actor ≡ true
    → IsWorld (step script w actor) × IsRunning script (step script w actor)

-- and the world after a drain
abbrev pub DrainsKeep : Type 0
DrainsKeep = (script : Script) (w : WorldAt) → IsWorld w → IsRunning script w → IsWorld (drained w) × IsRunning script (drained w)

-- A step changes at most one word, which its plan names; besides, the actor that makes it, and its results by at most one; the turn at Take and
-- Give alone; and the book at Answer alone
abbrev pub StepsChangeLittle : Type 0
StepsChangeLittle = (script : Script) (w : WorldAt) (actor : Actor) → IsWorld w → IsRunning script w → is_there script.targets actor ≡ true
    → Changes actor (plan_of script w actor) w (step script w actor)

-- at Answer the book has one entry more, the answer to the worker's copy on its channel
abbrev pub CopiesAreAnswered : Type 0
CopiesAreAnswered = (script : Script) (w : WorldAt) (target : ℕ) (taken : Copied) → (worker_at w target).stage ≡ Answer taken
    → (step script w (Worker target)).shared.book
    ≡ answered w.shared.book target (worker_at w target).channel taken (target_decision w.shared.book target taken)

-- if nobody has the turn no worker is in Answer or Give, and if one has it that worker alone is: so a worker that tries to take it finds it
-- held exactly if another worker is in Answer or Give
abbrev pub TurnsAreHeld : Type 0
TurnsAreHeld = (w : WorldAt) → IsWorld w
    → (w.shared.turn ≡ None → (t : ℕ) → t < length w.workers → has_turn (worker_at w t).stage ≡ false)
    × ((holder t : ℕ) → w.shared.turn ≡ Some holder → t < length w.workers → has_turn (worker_at w t).stage ≡ (holder == t))

-- the copy that a worker took, from its end until the reply is acknowledged
abbrev pub copy_in : WorkerStage → Option Copied
copy_in (Take taken) = Some taken
copy_in (Answer taken) = Some taken
copy_in (Give taken reply) = Some taken
copy_in (Reply taken reply at) = Some taken
copy_in (Ack taken reply) = Some taken
copy_in _ = None

-- a worker judges what it copied: from the end of the copy until the reply is acknowledged it loads nothing, and after each step it keeps the copy or looks on
abbrev pub CopiesAreJudged : Type 0
CopiesAreJudged = (w : WorkerAt) (seen : Observation) (taken : Copied) → copy_in w.stage ≡ Some taken
    → (is_load (worker_plan w) ≡ false) × ((copy_in (worker_after w seen).stage ≡ Some taken) ⊎ ((worker_after w seen).stage ≡ Look))

-- a step of a finished thread does nothing
abbrev pub FinishedThreadsStay : Type 0
FinishedThreadsStay = (script : Script) (w : WorldAt) (target thread : ℕ) → IsRunning script w → thread < length (threads_at w target)
    → is_finished script (run_at w target thread).thread ≡ true → step script w (Thread target thread) ≡ w

-- what comes first decides the world after it, and what comes later goes on from there
abbrev pub StepsAreFolds : Type 0
StepsAreFolds = (script : Script) (first later : List Actor) (w : WorldAt) → steps script (first ++ later) w ≡ steps script later (steps script first w)

-- At most n rounds are whole rounds of the actors that a round names, each of which is there. Before each of these rounds a thread was unfinished; and if
-- they are fewer than n, no thread is unfinished after them
pub record AreRounds (n : ℕ) (script : Script) (w v : WorldAt) : Type 0 where
  pub whole : ℕ
  pub few : whole ≤ n
  pub is : v ≡ steps script (in_turn whole (round_actors script.targets)) w
  pub unfinished : (i : ℕ) → i < whole → all_finished script (steps script (in_turn i (round_actors script.targets)) w) ≡ false
  pub ended : (whole ≡ n) ⊎ (all_finished script v ≡ true)

abbrev pub RoundsAreSteps : Type 0
RoundsAreSteps = (n : ℕ) (script : Script) (w : WorldAt) → AreRounds n script w (rounds n script w) × (are_there script.targets (round_actors script.targets) ≡ true)

-- a drain is whole passes, in each of which each worker makes one step, in target order. Before each of them the world was not settled
pub record ArePasses (script : Script) (w v : WorldAt) : Type 0 where
  pub passes : ℕ
  pub is : v ≡ steps script (in_turn passes (worker_actors (length w.workers))) w
  pub unsettled : (i : ℕ) → i < passes → is_settled (steps script (in_turn i (worker_actors (length w.workers))) w) ≡ false

abbrev pub DrainsAreSteps : Type 0
DrainsAreSteps = (script : Script) (w : WorldAt) → ArePasses script w (drained w)

-- so is each beginning of a drain, where of one more pass the first workers made their step
abbrev pub BeginningsAreSteps : Type 0
BeginningsAreSteps = (script : Script) (w v : WorldAt) (b : IsBeginning w v)
    → v ≡ steps script (in_turn b.passes (worker_actors (length w.workers)) ++ worker_actors b.workers) w

-- and in a world that runs its script these workers are there
abbrev pub WorkersAreThere : Type 0
WorkersAreThere = (script : Script) (w : WorldAt) (passes workers : ℕ) → IsWorld w → IsRunning script w → workers ≤ length w.workers
    → are_there script.targets (in_turn passes (worker_actors (length w.workers)) ++ worker_actors workers) ≡ true

-- each order of actors is that of a schedule, in which each of them makes one step
abbrev pub OrdersAreSchedules : Type 0
OrdersAreSchedules = (actors : List Actor) → scheduled (map (λ actor. (actor, 1)) actors) ≡ actors

-- a drain leaves every worker looking, and no state word is 3, whatever the words hold
abbrev pub DrainsSettle : Type 0
DrainsSettle = (w : WorldAt) → IsWorld w → is_settled (drained w) ≡ true

-- the entries of a run are a legal history of its script under its policies, and the kernel of its report is the one that they led to
abbrev pub RunsAreLegal : Type 0
RunsAreLegal = (policies : List Policy) (script : Script) (schedule : Schedule) → CanRun policies script schedule
    → IsHistory (record {
      setting = setting_of policies script;
      space = (ran policies script schedule).report.kernel;
      entries = (ran policies script schedule).report.entries;
    })

-- each result of a run is that of the statement at its place
abbrev pub RunsHaveResults : Type 0
RunsHaveResults = (policies : List Policy) (script : Script) (schedule : Schedule) → CanRun policies script schedule
    → ResultsFit script (ran policies script schedule).report.results

-- if no thread is unfinished there is exactly one result for each statement, at its place, and no state word is 3
abbrev pub FinishedRunsAreWhole : Type 0
FinishedRunsAreWhole = (policies : List Policy) (script : Script) (schedule : Schedule) → CanRun policies script schedule
    → (ran policies script schedule).unfinished ≡ None
    → AreAllResults script (ran policies script schedule).report.results × (some_ready (ran policies script schedule).report.words ≡ false)

-- each target has 65 words for each channel
abbrev pub RunsKeepWords : Type 0
RunsKeepWords = (policies : List Policy) (script : Script) (schedule : Schedule) → CanRun policies script schedule
    → map (λ words. length words) (ran policies script schedule).report.words ≡ map (λ target. target.channels * words_of_channel) script.targets

-- From the start these steps lead to a world in which no thread is unfinished. If nobody has the turn there, the script runs by the schedule of these
-- steps, and the report of that run is the one that `finish` gives for the world's words, workers, book and results, and the one of the drained world
pub record IsEndOfRun (policies : List Policy) (script : Script) (actors : List Actor) (w : WorldAt) : Type 0 where
  pub can : CanRun policies script (schedule_of actors)
  pub unfinished : (ran policies script (schedule_of actors)).unfinished ≡ None
  pub finishes : finished w.shared.words w.workers w.shared.book (results_of w.threads) ≡ (ran policies script (schedule_of actors)).report
  pub drains : report_of (drained w).shared (results_of w.threads) ≡ (ran policies script (schedule_of actors)).report

abbrev pub EndsAreRuns : Type 0
EndsAreRuns = (policies : List Policy) (script : Script) (actors : List Actor) (w : WorldAt) → IsReady policies script → are_there script.targets actors ≡ true
    → w ≡ steps script actors (start_world policies script) → first_unfinished script w.threads ≡ None → w.shared.turn ≡ None
    → IsEndOfRun policies script actors w

-- if each worker looks, nobody has the turn, and `finish` can be called
abbrev pub EndsCanFinish : Type 0
EndsCanFinish = (policies : List Policy) (script : Script) (actors : List Actor) (w : WorldAt) → IsReady policies script → are_there script.targets actors ≡ true
    → w ≡ steps script actors (start_world policies script) → first_unfinished script w.threads ≡ None
    → ((t : ℕ) → t < length script.targets → (worker_at w t).stage ≡ Look)
    → (w.shared.turn ≡ None) × CanFinish script w.shared.words w.workers w.shared.book (results_of w.threads)
