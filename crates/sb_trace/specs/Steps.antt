-- The steps of a run, numbered from 1: who made each, and the world before it. Those of finished threads do nothing and are left out; those of the drain are
-- steps too.
use Rattle.std.specs.Prelude.{◌≡◌, ℕ, zero, suc, ◌+◌, Bool, true, false, List, [], ◌∷◌, ◌++◌, length, map, Option, None, Some, if◌then◌else◌}
use Rattle.sb_actor.specs.declared.acts.Act.{Act}
use Rattle.sb_actor.specs.declared.acts.Act.TheVariants as act
use Rattle.sb_core.specs.Actors.{are_there, in_turn, round_actors, scheduled, worker_actors}
use Rattle.sb_core.specs.Changes.{plan_of}
use Rattle.sb_core.specs.Drains.{is_settled, most_passes, one_pass}
use Rattle.sb_core.specs.Runs.{CanRun, played, ran, schedule_of}
use Rattle.sb_core.specs.Threads.{first_unfinished}
use Rattle.sb_core.specs.Worlds.{WorldAt, all_finished, round, start_world, step, steps}
use Rattle.sb_rule.specs.declared.policies.Policy.{Policy}
use Rattle.sb_statements.specs.declared.schedules.Actor.{Actor}
use Rattle.sb_statements.specs.declared.schedules.Schedule.{Schedule}
use Rattle.sb_statements.specs.declared.scripts.Script.{Script}

-- a step: its number, who makes it, and the world before it
pub record StepAt : Type 0 where
  pub number : ℕ
  pub actor : Actor
  pub before : WorldAt

-- the step of a finished thread
abbrev pub is_idle : Act → Bool
is_idle act.Idle = true
is_idle _ = false

-- the steps that these actors make in turn from a world, except those of finished threads; the first has the number n
abbrev pub steps_made : Script → List Actor → WorldAt → ℕ → List StepAt
steps_made script [] w n = []
steps_made script (actor ∷ more) w n =
    if is_idle (plan_of script w actor) then steps_made script more (step script w actor) n
    else record { number = n; actor = actor; before = w } ∷ steps_made script more (step script w actor) (n + 1)

-- of at most n rounds, how many are made while a thread is unfinished
abbrev pub rounds_made : ℕ → Script → WorldAt → ℕ
rounds_made zero script w = 0
rounds_made (suc n) script w = elim (all_finished script w) [ true ↦ 0 | false ↦ suc (rounds_made n script (round script w)) ]

-- of at most n passes, how many are made until the world is settled
abbrev pub passes_made : ℕ → WorldAt → ℕ
passes_made zero w = 0
passes_made (suc n) w = elim (is_settled w) [ true ↦ 0 | false ↦ suc (passes_made n (one_pass w)) ]

-- who makes the steps of the drain after a run that leaves this unfinished: there is no drain if it leaves any
abbrev pub drain_actors : WorldAt → Option (ℕ × ℕ) → List Actor
drain_actors w None = in_turn (passes_made most_passes w) (worker_actors (length w.workers))
drain_actors w (Some thread) = []

-- who makes the steps of a run: the actors of its schedule, those of its rounds, and those of its drain
abbrev pub actors_of_run : List Policy → Script → Schedule → List Actor
actors_of_run policies script schedule =
    scheduled schedule.steps
    ++ (in_turn (rounds_made schedule.rounds script (steps script (scheduled schedule.steps) (start_world policies script))) (round_actors script.targets)
    ++ drain_actors (played policies script schedule) (first_unfinished script (played policies script schedule).threads))

-- the steps of a run, in order
abbrev pub steps_of_run : List Policy → Script → Schedule → List StepAt
steps_of_run policies script schedule = steps_made script (actors_of_run policies script schedule) (start_world policies script) 1

-- the order of the steps of a run: who makes each
abbrev pub order_of_run : List Policy → Script → Schedule → List Actor
order_of_run policies script schedule = map (λ s. s.actor) (steps_of_run policies script schedule)

-- The order of the steps of a run, written as a schedule without rounds, is of actors that are there, and its run has the same report and leaves the same
-- thread unfinished
abbrev pub OrdersAreRuns : Type 0
OrdersAreRuns = (policies : List Policy) (script : Script) (schedule : Schedule) → CanRun policies script schedule
    → (are_there script.targets (order_of_run policies script schedule) ≡ true)
    × (ran policies script (schedule_of (order_of_run policies script schedule)) ≡ ran policies script schedule)
