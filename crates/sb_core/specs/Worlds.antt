-- The world: what all actors share, and where each worker and each thread is, with the results so far. A step is one row of the
-- worker's table or of the thread's, applied to the world.
use Rattle.std.specs.Prelude.{ℕ, zero, suc, Bool, true, false, is_none, List, [], ◌∷◌, ◌++◌, length, map, slice_get, slice_index_or, slice_set, None}
use Rattle.std.specs.List.{list_all}
use Rattle.sb_actor.specs.Places.{thread_start}
use Rattle.sb_actor.specs.WorkerStages.{WorkerAt, Look}
use Rattle.sb_actor.specs.WorkerTable.{worker_plan, worker_after}
use Rattle.sb_book.specs.Histories.{new_history, setting_of}
use Rattle.sb_rule.specs.declared.policies.Policy.{Policy}
use Rattle.sb_statements.specs.Soundness.{channels_of}
use Rattle.sb_statements.specs.declared.schedules.Actor.{Actor}
use Rattle.sb_statements.specs.declared.schedules.Actor.TheVariants.{Worker, Thread}
use Rattle.sb_statements.specs.declared.scripts.Script.{Script}
use Rattle.sb_statements.specs.declared.scripts.TargetScript.{TargetScript}
use Rattle.sb_core.specs.Actors.{round_actors}
use Rattle.sb_statements.specs.Actors.{thread_count}
use Rattle.sb_core.specs.Shared.{SharedAt, Effect, on_worker}
use Rattle.sb_core.specs.Threads.{RunAt, ThreadStep, are_over, no_run, thread_step, first_unfinished}
use Rattle.sb_core.specs.Words.{free_channels}

-- the channel words, the holder of the turn and the book, which all share; the worker of each target; and the threads of each target
-- with their results
pub record WorldAt : Type 0 where
  pub shared : SharedAt
  pub workers : List WorkerAt
  pub threads : List (List RunAt)

-- a worker that is not there
abbrev pub no_worker : WorkerAt
no_worker = record { target = 0; channels = 0; channel = 0; stage = Look }

abbrev pub worker_at : WorldAt → ℕ → WorkerAt
worker_at w target = slice_index_or w.workers target no_worker

-- the threads of a target; one that is not there has none
abbrev pub threads_at : WorldAt → ℕ → List RunAt
threads_at w target = slice_index_or w.threads target []

abbrev pub run_at : WorldAt → ℕ → ℕ → RunAt
run_at w target thread = slice_index_or (threads_at w target) thread no_run

-- the worker of a target before its first step: it looks at channel 0
abbrev pub first_worker : List TargetScript → ℕ → WorkerAt
first_worker targets target = record { target = target; channels = channels_of (slice_get targets target); channel = 0; stage = Look }

-- the workers of the first n targets
abbrev pub first_workers : List TargetScript → ℕ → List WorkerAt
first_workers targets zero = []
first_workers targets (suc n) = first_workers targets n ++ first_worker targets n ∷ []

-- a thread before its first step, with no results
abbrev pub first_run : Script → ℕ → ℕ → RunAt
first_run script target thread = record { thread = thread_start script target thread; results = [] }

-- the first n threads of a target
abbrev pub first_runs : Script → ℕ → ℕ → List RunAt
first_runs script target zero = []
first_runs script target (suc n) = first_runs script target n ++ first_run script target n ∷ []

-- the threads of the first n targets
abbrev pub start_threads : Script → ℕ → List (List RunAt)
start_threads script zero = []
start_threads script (suc n) = start_threads script n ++ first_runs script n (thread_count (slice_get script.targets n)) ∷ []

-- the channel words of targets at the start
abbrev pub first_words : List TargetScript → List (List ℕ)
first_words targets = map (λ target. free_channels target.channels) targets

-- the world before the first step: each channel is free, nobody has the turn, and the namespace is the one that the script opens with
abbrev pub start_world : List Policy → Script → WorldAt
start_world policies script = record {
  shared = record { words = first_words script.targets; turn = None; book = new_history (setting_of policies script) };
  workers = first_workers script.targets (length script.targets);
  threads = start_threads script (length script.targets);
}

-- the worker of a target goes on by what its step found
abbrev pub worker_goes : WorldAt → ℕ → WorkerAt → Effect → WorldAt
worker_goes w target worker e = record w { shared = e.shared; workers = slice_set w.workers target (worker_after worker e.seen) }

-- one step of the worker of a target
abbrev pub worker_step : WorldAt → ℕ → WorldAt
worker_step w target = worker_goes w target (worker_at w target) (on_worker w.shared target (worker_at w target) (worker_plan (worker_at w target)))

-- a thread of a target made its step
abbrev pub thread_goes : WorldAt → ℕ → ℕ → ThreadStep → WorldAt
thread_goes w target thread s =
    record w { shared = s.shared; threads = slice_set w.threads target (slice_set (threads_at w target) thread s.run) }

-- one step of an actor. That of a finished thread does nothing
abbrev pub step : Script → WorldAt → Actor → WorldAt
step script w (Worker target) = worker_step w target
step script w (Thread target thread) = thread_goes w target thread (thread_step script w.shared (run_at w target thread))

-- the world after the steps of these actors, in turn
abbrev pub steps : Script → List Actor → WorldAt → WorldAt
steps script [] w = w
steps script (actor ∷ more) w = steps script more (step script w actor)

-- a round: one step of each actor
abbrev pub round : Script → WorldAt → WorldAt
round script w = steps script (round_actors script.targets) w

-- each statement of each thread has ended
abbrev pub all_finished : Script → WorldAt → Bool
all_finished script w = is_none (first_unfinished script w.threads)

-- the same by the stages of the threads, in a world that runs its script
abbrev pub all_over : WorldAt → Bool
all_over w = list_all (λ runs. are_over runs) w.threads

-- at most n rounds, while a thread is unfinished. A round is made whole before the threads are looked at again
abbrev pub rounds : ℕ → Script → WorldAt → WorldAt
rounds zero script w = w
rounds (suc n) script w = elim (all_finished script w) [ true ↦ w | false ↦ rounds n script (round script w) ]
