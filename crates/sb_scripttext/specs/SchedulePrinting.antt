-- How schedules are written as a text.
use Rattle.std.specs.Prelude.{ℕ, Bool, ◌&&◌, nat_le, List, [], ◌∷◌, ◌++◌, map, codes}
use Rattle.std.specs.Fmt.{decimal}
use Rattle.std.specs.List.{flat_map}
use Rattle.sb_statements.specs.declared.schedules.Actor.{Actor}
use Rattle.sb_statements.specs.declared.schedules.Actor.TheVariants.{Worker, Thread}
use Rattle.sb_statements.specs.declared.schedules.Schedule.{Schedule}
use Rattle.sb_text.specs.PlainLines.{words_text}
use Rattle.sb_base.specs.Numbers.{is_word32}

-- the name of an actor: `bT` names the worker of target T, and `tT.K` its thread K
abbrev pub actor_word : Actor → List ℕ
actor_word (Worker target) = 98 ∷ decimal target
actor_word (Thread target thread) = 116 ∷ (decimal target ++ 46 ∷ decimal thread)

-- the first line: `sandbox-schedule 1`
abbrev pub version_words : List (List ℕ)
version_words = codes "sandbox-schedule" ∷ codes "1" ∷ []

-- the line of an actor and how many steps it makes: `step ACTOR N`
abbrev pub step_words : Actor × ℕ → List (List ℕ)
step_words step = codes "step" ∷ actor_word step.0 ∷ decimal step.1 ∷ []

-- the last line: `rounds N`
abbrev pub rounds_words : ℕ → List (List ℕ)
rounds_words n = codes "rounds" ∷ decimal n ∷ []

-- the lines of a schedule: the version, its steps, and its rounds
abbrev pub schedule_lines : Schedule → List (List (List ℕ))
schedule_lines schedule = version_words ∷ (map step_words schedule.steps ++ rounds_words schedule.rounds ∷ [])

-- the text of a schedule
abbrev pub written : Schedule → List ℕ
written schedule = flat_map words_text (schedule_lines schedule)

-- the numbers of an actor have 32 bits, as those of every actor in memory have
abbrev pub is_actor_of_values : Actor → Bool
is_actor_of_values (Worker target) = is_word32 target
is_actor_of_values (Thread target thread) = is_word32 target && is_word32 thread

-- such an actor makes at least one step
abbrev pub is_made : Actor × ℕ → Bool
is_made step = is_actor_of_values step.0 && nat_le 1 step.1

-- one step of each of these actors, in this order, and then at most this many rounds
abbrev pub in_order : List Actor → ℕ → Schedule
in_order actors rounds = record { steps = map (λ actor. (actor, 1)) actors; rounds = rounds }
