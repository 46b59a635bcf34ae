-- In which order the actors of a script make the steps of a schedule and of a round.
use Rattle.std.specs.Prelude.{ℕ, zero, suc, Bool, List, [], ◌∷◌, ◌++◌, length, replicate, slice_get}
use Rattle.std.specs.List.{list_all}
use Rattle.sb_statements.specs.Actors.{thread_count, is_there}
use Rattle.sb_statements.specs.declared.schedules.Actor.{Actor}
use Rattle.sb_statements.specs.declared.schedules.Actor.TheVariants.{Worker, Thread}
use Rattle.sb_statements.specs.declared.scripts.TargetScript.{TargetScript}

-- each of these actors is there
abbrev pub are_there : List TargetScript → List Actor → Bool
are_there targets actors = list_all (is_there targets) actors

-- each actor of a schedule, as often in turn as it makes a step
abbrev pub scheduled : List (Actor × ℕ) → List Actor
scheduled [] = []
scheduled (entry ∷ more) = replicate entry.1 entry.0 ++ scheduled more

-- the first n threads of a target, in order
abbrev pub first_threads : ℕ → ℕ → List Actor
first_threads target zero = []
first_threads target (suc n) = first_threads target n ++ Thread target n ∷ []

-- the worker of a target, then its threads in order
abbrev pub target_actors : List TargetScript → ℕ → List Actor
target_actors targets target = Worker target ∷ first_threads target (thread_count (slice_get targets target))

-- those of the first n targets, in order
abbrev pub first_actors : List TargetScript → ℕ → List Actor
first_actors targets zero = []
first_actors targets (suc n) = first_actors targets n ++ target_actors targets n

-- who makes the steps of a round: for each target its worker, then its threads in order
abbrev pub round_actors : List TargetScript → List Actor
round_actors targets = first_actors targets (length targets)

-- the workers of the first n targets, in order
abbrev pub worker_actors : ℕ → List Actor
worker_actors zero = []
worker_actors (suc n) = worker_actors n ++ Worker n ∷ []

-- these actors, n times in turn
abbrev pub in_turn : ℕ → List Actor → List Actor
in_turn zero actors = []
in_turn (suc n) actors = in_turn n actors ++ actors
