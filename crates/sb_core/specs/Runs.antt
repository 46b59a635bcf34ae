-- A whole run of a script by a schedule, and the end of a run by threads.
use Rattle.std.specs.Prelude.{◌≡◌, ◌<◌, ℕ, ◌*◌, true, List, [], length, map, slice_get, slice_index_or, Option, None, Some}
use Rattle.std.specs.List.{list_all}
use Rattle.sb_actor.specs.WorkerStages.{WorkerAt, Look}
use Rattle.sb_book.specs.Histories.{History}
use Rattle.sb_book.specs.Readiness.{IsReady}
use Rattle.sb_rule.specs.declared.policies.Policy.{Policy}
use Rattle.sb_statements.specs.Limits.{most_targets, most_threads, most_statements}
use Rattle.sb_statements.specs.Soundness.{channels_of}
use Rattle.sb_statements.specs.declared.results.StmtResult.{StmtResult}
use Rattle.sb_statements.specs.declared.schedules.Actor.{Actor}
use Rattle.sb_statements.specs.declared.schedules.Schedule.{Schedule}
use Rattle.sb_statements.specs.declared.scripts.Script.{Script}
use Rattle.sb_core.specs.Actors.{scheduled}
use Rattle.sb_statements.specs.Actors.{is_step_there}
use Rattle.sb_core.specs.Drains.{drained}
use Rattle.sb_core.specs.Reports.{report_of, results_of}
use Rattle.sb_core.specs.Results.{AreAllResults}
use Rattle.sb_core.specs.Threads.{first_unfinished}
use Rattle.sb_core.specs.Worlds.{WorldAt, no_worker, start_world, steps, rounds}
use Rattle.sb_book.specs.declared.reports.Report.{Report}
use Rattle.sb_core.specs.declared.runs.Ran.{Ran}
use Rattle.sb_statements.specs.Words.{words_of_channel}

-- the script is ready for the policies, and it has each actor of the schedule
pub record CanRun (policies : List Policy) (script : Script) (schedule : Schedule) : Type 0 where
  pub ready : IsReady policies script
  pub there : list_all (is_step_there script.targets) schedule.steps ≡ true

-- a worker that looks, of the target with this number
pub record IsIdle (script : Script) (t : ℕ) (x : WorkerAt) : Type 0 where
  pub its_target : x.target ≡ t
  pub its_channels : x.channels ≡ channels_of (slice_get script.targets t)
  pub within : x.channel < x.channels
  pub looks : x.stage ≡ Look

-- The parts of a world in which every thread is finished and nobody has the turn: 65 words for each channel of each target, one looking worker
-- for each target, one result for each statement, and a book of this script
pub record CanFinish (script : Script) (words : List (List ℕ)) (workers : List WorkerAt) (book : History) (results : List (List (List StmtResult))) : Type 0 where
  pub sized : map (λ target. length target) words ≡ map (λ target. target.channels * words_of_channel) script.targets
  pub count : length workers ≡ length script.targets
  pub idle : (t : ℕ) → t < length workers → IsIdle script t (slice_index_or workers t no_worker)
  pub channels : book.setting.channels ≡ map (λ target. target.channels) script.targets
  pub policies : length book.setting.policies ≡ length script.targets
  pub whole : AreAllResults script results

-- the world after the steps of a schedule, and then its rounds
abbrev pub played : List Policy → Script → Schedule → WorldAt
played policies script schedule = rounds schedule.rounds script (steps script (scheduled schedule.steps) (start_world policies script))

-- if every thread is finished the workers drain the channels, and otherwise there is no drain
abbrev pub ended : WorldAt → Option (ℕ × ℕ) → Ran
ended w None = record { report = report_of (drained w).shared (results_of w.threads); unfinished = None }
ended w (Some thread) = record { report = report_of w.shared (results_of w.threads); unfinished = Some thread }

abbrev pub ended_from : Script → WorldAt → Ran
ended_from script w = ended w (first_unfinished script w.threads)

-- the steps of the schedule, then rounds while a thread is unfinished and rounds are left, then the drain if every thread is finished
abbrev pub ran : List Policy → Script → Schedule → Ran
ran policies script schedule = ended_from script (played policies script schedule)

-- the schedule in which each of these actors makes one step, in turn, and which has no rounds
abbrev pub schedule_of : List Actor → Schedule
schedule_of actors = record { steps = map (λ actor. (actor, 1)) actors; rounds = 0 }

-- the report of a run of a script by some order of steps: a schedule of actors that are there, without rounds, that leaves no thread unfinished
pub record IsSomeRun (policies : List Policy) (script : Script) (report : Report) : Type 0 where
  pub schedule : Schedule
  pub can : CanRun policies script schedule
  pub no_rounds : schedule.rounds ≡ 0
  pub finished : (ran policies script schedule).unfinished ≡ None
  pub is : report ≡ (ran policies script schedule).report

-- a world of these words, workers and book, in which no thread is left and nobody has the turn
abbrev pub world_of : List (List ℕ) → List WorkerAt → History → WorldAt
world_of words workers book = record { shared = record { words = words; turn = None; book = book }; workers = workers; threads = [] }

-- the report after the drain of it, with the results of the threads
abbrev pub finished : List (List ℕ) → List WorkerAt → History → List (List (List StmtResult)) → Report
finished words workers book results = report_of (drained (world_of words workers book)).shared results

-- no run has more results
abbrev pub most_results : ℕ
most_results = most_targets * (most_threads * most_statements)
