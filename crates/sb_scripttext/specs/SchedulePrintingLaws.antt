-- What is true of the text of schedules.
use Rattle.std.specs.Prelude.{◌≡◌, ◌≤◌, ℕ, true, List, length, Ok}
use Rattle.std.specs.List.{list_all}
use Rattle.sb_statements.specs.Actors.{is_step_there, is_there}
use Rattle.sb_scripttext.specs.ScheduleDrafts.{step_count}
use Rattle.sb_scripttext.specs.ScheduleLimits.{most_bytes, most_rounds, most_steps}
use Rattle.sb_scripttext.specs.SchedulePrinting.{written, is_actor_of_values, is_made, in_order}
use Rattle.sb_scripttext.specs.ScheduleTexts.{reading}
use Rattle.sb_statements.specs.declared.schedules.Actor.{Actor}
use Rattle.sb_statements.specs.declared.schedules.Schedule.{Schedule}
use Rattle.sb_statements.specs.declared.scripts.TargetScript.{TargetScript}

-- the text of a schedule is read as this schedule: each of its actors is there and makes at least one step, and its steps and rounds are
-- within their limits
abbrev pub WrittenSchedulesAreRead : Type 0
WrittenSchedulesAreRead = (targets : List TargetScript) (schedule : Schedule) → list_all (is_step_there targets) schedule.steps ≡ true
    → list_all is_made schedule.steps ≡ true → step_count schedule.steps ≤ most_steps → schedule.rounds ≤ most_rounds
    → reading targets (written schedule) ≡ Ok schedule

-- so every order of at most 100,000 steps of actors that are there can be written
abbrev pub OrdersAreRead : Type 0
OrdersAreRead = (targets : List TargetScript) (actors : List Actor) (rounds : ℕ) → list_all (is_there targets) actors ≡ true
    → list_all is_actor_of_values actors ≡ true → length actors ≤ most_steps → rounds ≤ most_rounds
    → reading targets (written (in_order actors rounds)) ≡ Ok (in_order actors rounds)

-- each actor of a schedule that is read makes at least one step
abbrev pub ActorsMakeSteps : Type 0
ActorsMakeSteps = (targets : List TargetScript) (text : List ℕ) (schedule : Schedule) → reading targets text ≡ Ok schedule
    → list_all is_made schedule.steps ≡ true

-- so each schedule that is read is read again from its text
abbrev pub ReadSchedulesAreReadAgain : Type 0
ReadSchedulesAreReadAgain = (targets : List TargetScript) (text : List ℕ) (schedule : Schedule) → reading targets text ≡ Ok schedule
    → reading targets (written schedule) ≡ Ok schedule

-- the text of a schedule within the limits, each of whose entries makes at least one step, has no more: it can be read from a file
abbrev pub WrittenSchedulesAreShort : Type 0
WrittenSchedulesAreShort = (schedule : Schedule) → list_all is_made schedule.steps ≡ true → step_count schedule.steps ≤ most_steps → schedule.rounds ≤ most_rounds
    → length (written schedule) ≤ most_bytes

-- nor has that of any order of at most 100,000 steps
abbrev pub OrdersAreShort : Type 0
OrdersAreShort = (actors : List Actor) (rounds : ℕ) → list_all is_actor_of_values actors ≡ true → length actors ≤ most_steps → rounds ≤ most_rounds
    → length (written (in_order actors rounds)) ≤ most_bytes
