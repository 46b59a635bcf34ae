-- What each thread comes to depends on the values that its own steps found alone.
use Rattle.std.specs.Prelude.{◌≡◌, ◌<◌, ◌≤◌, ℕ, ◌==◌, ◌&&◌, true, List, [], ◌∷◌, ◌++◌, length, Some, if◌then◌else◌}
use Rattle.sb_actor.specs.Acts.{value_in}
use Rattle.sb_actor.specs.Findings.{IsCaused, results_of_values, after_values}
use Rattle.sb_actor.specs.ThreadTable.{thread_plan}
use Rattle.sb_book.specs.Readiness.{IsReady}
use Rattle.sb_rule.specs.declared.policies.Policy.{Policy}
use Rattle.sb_statements.specs.declared.results.StmtResult.{StmtResult}
use Rattle.sb_statements.specs.declared.schedules.Actor.{Actor}
use Rattle.sb_statements.specs.declared.schedules.Actor.TheVariants.{Worker, Thread}
use Rattle.sb_statements.specs.declared.schedules.Schedule.{Schedule}
use Rattle.sb_statements.specs.declared.scripts.Script.{Script}
use Rattle.sb_core.specs.Actors.{are_there, in_turn, round_actors, scheduled}
use Rattle.sb_core.specs.Kept.{IsRunning, IsWorld}
use Rattle.sb_core.specs.Reports.{results_of}
use Rattle.sb_core.specs.Results.{result_at}
use Rattle.sb_core.specs.Runs.{CanRun, played, ran}
use Rattle.sb_core.specs.Shared.{on_word}
use Rattle.sb_core.specs.Worlds.{WorldAt, run_at, start_world, step, steps, threads_at}

-- the value that the step of an actor found, if it is thread k of target t
abbrev pub found_in : Script → ℕ → ℕ → Actor → WorldAt → List ℕ
found_in script t k (Worker u) w = []
found_in script t k (Thread u j) w = if u == t && j == k then value_in (on_word w.shared (thread_plan script (run_at w t k).thread)).seen ∷ [] else []

-- the values that its steps found among those of these actors, in turn
abbrev pub found_by : Script → ℕ → ℕ → List Actor → WorldAt → List ℕ
found_by script t k [] w = []
found_by script t k (actor ∷ more) w = found_in script t k actor w ++ found_by script t k more (step script w actor)

-- where a thread is after these steps, and its results there, are those that its values give from where it was
abbrev pub ThreadsFollowTheirValues : Type 0
ThreadsFollowTheirValues = (script : Script) (actors : List Actor) (w : WorldAt) (t k : ℕ) → IsWorld w → IsRunning script w → are_there script.targets actors ≡ true
    → k < length (threads_at w t)
    → ((run_at (steps script actors w) t k).thread ≡ after_values script (run_at w t k).thread (found_by script t k actors w))
    × ((run_at (steps script actors w) t k).results ≡ (run_at w t k).results ++ results_of_values script (run_at w t k).thread (found_by script t k actors w))

-- Each of these results of threads has its cause in the values that the steps of its own thread found, among the steps of these actors from the start
abbrev pub AreCaused : List Policy → Script → List Actor → List (List (List StmtResult)) → Type 0
AreCaused policies script actors results = (t k i : ℕ) (r : StmtResult) → result_at results t k i ≡ Some r
    → IsCaused script t k (found_by script t k actors (start_world policies script)) i r

-- so it is of the results so far, after any steps of actors that are there
abbrev pub WorldsAreCaused : Type 0
WorldsAreCaused = (policies : List Policy) (script : Script) (actors : List Actor) → IsReady policies script → are_there script.targets actors ≡ true
    → AreCaused policies script actors (results_of (steps script actors (start_world policies script)).threads)

-- who makes the steps of a run: the actors of its schedule, and then those of n rounds
abbrev pub run_actors : Script → Schedule → ℕ → List Actor
run_actors script schedule n = scheduled schedule.steps ++ in_turn n (round_actors script.targets)

-- the rounds that a run makes, and the cause of each result of its report in the steps up to their end
pub record IsCausedRun (policies : List Policy) (script : Script) (schedule : Schedule) : Type 0 where
  pub whole : ℕ
  pub few : whole ≤ schedule.rounds
  pub is : played policies script schedule ≡ steps script (run_actors script schedule whole) (start_world policies script)
  pub caused : AreCaused policies script (run_actors script schedule whole) (ran policies script schedule).report.results

-- so it is of the report of every run
abbrev pub RunsAreCaused : Type 0
RunsAreCaused = (policies : List Policy) (script : Script) (schedule : Schedule) → CanRun policies script schedule → IsCausedRun policies script schedule
