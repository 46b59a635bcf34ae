-- Each step of a seat is one step of the core.
use Rattle.std.specs.Prelude.{◌≡◌, ℕ, ◌+◌, true, List, [], ◌∷◌, ◌++◌}
use mathlib.Core.Option as raw
use lib.ListN.{get_elem?}
use Rattle.sb_actor.specs.ThreadTable.{thread_plan}
use Rattle.sb_actor.specs.WorkerTable.{worker_plan}
use Rattle.sb_actor.specs.Observations.{Observation}
use Rattle.sb_statements.specs.declared.scripts.Script.{Script}
use Rattle.sb_core.specs.Actors.{are_there}
use Rattle.sb_core.specs.Shared.{on_word, on_worker}
use Rattle.sb_core.specs.Worlds.{WorldAt, step}
use Rattle.sb_shared.specs.Events.{actors_of, steps_of, world_in}
use Rattle.sb_shared.specs.Parts.{actor_in, part_of}
use Rattle.sb_shared.specs.declared.views.Event.{Event}
use Rattle.sb_shared.specs.declared.views.Event.TheVariants as event
use Rattle.sb_shared.specs.declared.views.Origin.{Origin}
use Rattle.sb_shared.specs.declared.views.Part.{Part}
use Rattle.sb_shared.specs.declared.views.Part.TheVariants as part

-- What happened before: all that the seat with these parts had seen, and then no step of an actor of its own
pub record IsSince (parts : List Part) (seen before : List Event) : Type 0 where
  pub since : List Event
  pub is : before ≡ seen ++ since
  pub others : (n : ℕ) (p : Part) → get_elem? parts n ≡ raw.some p → steps_of (actor_in p) since ≡ 0

-- One step of the core: in the world after what happened before, the actor was where its seat had it, and its step left it where the seat has it now
pub record IsStep (key : Origin) (from to : Part) (seen before now : List Event) : Type 0 where
  pub since : IsSince (from ∷ []) seen before
  pub there : are_there key.script.value.targets (actors_of before) ≡ true
  pub stood : from ≡ part_of (world_in key before) (actor_in from)
  pub stands : to ≡ part_of (step key.script.value (world_in key before) (actor_in from)) (actor_in from)
  pub made : now ≡ before ++ event.Step (actor_in from) ∷ []

-- So it leads from world to world as the step of the core does, and is one step of its actor more than the seat had seen
abbrev pub SeatsStepTheCore : Type 0
SeatsStepTheCore = (key : Origin) (from to : Part) (seen before now : List Event) → IsStep key from to seen before now
    → (world_in key now ≡ step key.script.value (world_in key before) (actor_in from)) × (steps_of (actor_in from) now ≡ steps_of (actor_in from) seen + 1)

-- what a step of the actor that is here finds in a world
abbrev pub shown_in : Script → WorldAt → Part → Observation
shown_in script w (part.Worker target state book) = (on_worker w.shared target state (worker_plan state)).seen
shown_in script w (part.Thread target thread state results) = (on_word w.shared (thread_plan script state)).seen
