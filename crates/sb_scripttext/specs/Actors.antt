-- The names of actors.
use Rattle.std.specs.Prelude.{ℕ, ◌^◌, Bool, ◌==◌, nat_lt, List, [], ◌∷◌, Option, None, Some, if◌then◌else◌}
use Rattle.std.specs.List.{before_first, after_first}
use Rattle.sb_statements.specs.Actors.{is_there}
use Rattle.sb_statements.specs.declared.schedules.Actor.{Actor}
use Rattle.sb_statements.specs.declared.schedules.Actor.TheVariants.{Worker, Thread}
use Rattle.sb_statements.specs.declared.scripts.TargetScript.{TargetScript}
use Rattle.sb_text.specs.Numbers.{decimal_of}

abbrev pub is_dot : ℕ → Bool
is_dot b = b == 46

-- the number of a target or of a thread: 1 to 20 decimal digits with a value below 2^32
abbrev pub number_32 : List ℕ → Option ℕ
number_32 word = elim (decimal_of word) [ None ↦ None | Some n ↦ if nat_lt n (2 ^ 32) then Some n else None ]

-- the worker of this target
abbrev pub worker_at : Option ℕ → Option Actor
worker_at (Some target) = Some (Worker target)
worker_at None = None

-- this thread of this target
abbrev pub thread_at : Option ℕ → Option ℕ → Option Actor
thread_at (Some target) (Some thread) = Some (Thread target thread)
thread_at _ _ = None

-- `T.K` names thread K of target T
abbrev pub thread_named : List ℕ → Option Actor
thread_named word = thread_at (number_32 (before_first is_dot word)) (number_32 (after_first is_dot word))

-- `bT` names the worker of target T, and `tT.K` its thread K
abbrev pub actor_named : List ℕ → Option Actor
actor_named [] = None
actor_named (b ∷ word) = if b == 98 then worker_at (number_32 word) else (if b == 116 then thread_named word else None)

-- an actor that is there
abbrev pub where_there : List TargetScript → Option Actor → Option Actor
where_there targets (Some actor) = if is_there targets actor then Some actor else None
where_there targets None = None

-- the actor of a script that a word names
abbrev pub actor_of : List TargetScript → List ℕ → Option Actor
actor_of targets word = where_there targets (actor_named word)
