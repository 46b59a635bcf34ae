-- Which actors a script has.
use Rattle.std.specs.Prelude.{ℕ, Bool, nat_lt, List, length, slice_get, Option, None, Some}
use Rattle.sb_statements.specs.declared.schedules.Actor.{Actor}
use Rattle.sb_statements.specs.declared.schedules.Actor.TheVariants.{Worker, Thread}
use Rattle.sb_statements.specs.declared.scripts.TargetScript.{TargetScript}

-- how many threads a target has; one that is not there has none
abbrev pub thread_count : Option TargetScript → ℕ
thread_count None = 0
thread_count (Some target) = length target.threads

-- the target is there, and so is its thread
abbrev pub is_there : List TargetScript → Actor → Bool
is_there targets (Worker target) = nat_lt target (length targets)
is_there targets (Thread target thread) = nat_lt thread (thread_count (slice_get targets target))

-- the actor of these steps is there
abbrev pub is_step_there : List TargetScript → Actor × ℕ → Bool
is_step_there targets step = is_there targets step.0
