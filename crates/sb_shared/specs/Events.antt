-- What happened in a run, in one order for all seats: the steps of its actors, and those on the stop word.
use Rattle.std.specs.Prelude.{◌≡◌, ℕ, ◌+◌, max, Bool, false, ◌==◌, ◌&&◌, List, [], ◌∷◌, ◌++◌, Some, if◌then◌else◌, nat_lt, length}
use Rattle.sb_statements.specs.declared.schedules.Actor.{Actor}
use Rattle.sb_statements.specs.declared.schedules.Actor.TheVariants.{Worker, Thread}
use Rattle.sb_core.specs.Worlds.{WorldAt, steps}
use Rattle.sb_shared.specs.Origins.{start_of}
use Rattle.sb_shared.specs.Stops.{stop_number}
use Rattle.sb_shared.specs.declared.views.Event.{Event}
use Rattle.sb_shared.specs.declared.views.Event.TheVariants as event
use Rattle.sb_shared.specs.declared.views.Origin.{Origin}

-- the same actor
abbrev pub is_same : Actor → Actor → Bool
is_same (Worker t) (Worker u) = t == u
is_same (Thread t k) (Thread u l) = t == u && k == l
is_same _ _ = false

-- the actors that made their steps, in turn
abbrev pub actors_of : List Event → List Actor
actors_of [] = []
actors_of (event.Step a ∷ events) = a ∷ actors_of events
actors_of (event.Stop stop ∷ events) = actors_of events
actors_of (event.Look ∷ events) = actors_of events

-- how many steps an actor made
abbrev pub steps_of : Actor → List Event → ℕ
steps_of a [] = 0
steps_of a (event.Step b ∷ events) = (if is_same a b then 1 else 0) + steps_of a events
steps_of a (event.Stop stop ∷ events) = steps_of a events
steps_of a (event.Look ∷ events) = steps_of a events

-- what the stop word says: the greatest stop that was set, 0 if none
abbrev pub stop_in : List Event → ℕ
stop_in [] = 0
stop_in (event.Step a ∷ events) = stop_in events
stop_in (event.Stop stop ∷ events) = max (stop_number (Some stop)) (stop_in events)
stop_in (event.Look ∷ events) = stop_in events

-- the world after these
abbrev pub world_in : Origin → List Event → WorldAt
world_in key events = steps key.script.value (actors_of events) (start_of key)

-- the first of two lists is what the second begins with
abbrev pub Begins : List Event → List Event → Type 0
Begins first events = (later : List Event) × (events ≡ first ++ later)

-- the longer of two
abbrev pub longer : List Event → List Event → List Event
longer xs ys = if nat_lt (length xs) (length ys) then ys else xs
