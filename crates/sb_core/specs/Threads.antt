-- A thread with the results of its statements that ended, and its step.
use Rattle.std.specs.Prelude.{ℕ, ◌<◌, Bool, List, [], ◌∷◌, ◌++◌, length, Option, None, Some, IfSome, if◌then◌else◌}
use Rattle.std.specs.Option.{option_to_list}
use Rattle.std.specs.List.{list_all}
use Rattle.sb_actor.specs.Places.{is_finished, is_over}
use Rattle.sb_actor.specs.ThreadStages.{ThreadAt, Over}
use Rattle.sb_actor.specs.ThreadTable.{ThreadNext, thread_plan, thread_after}
use Rattle.sb_statements.specs.Limits.{most_statements}
use Rattle.sb_statements.specs.declared.results.StmtResult.{StmtResult}
use Rattle.sb_statements.specs.declared.scripts.Script.{Script}
use Rattle.sb_core.specs.Shared.{SharedAt, Effect, on_word}

-- where a thread is, and the results of its statements that ended, by place
pub record RunAt : Type 0 where
  pub thread : ThreadAt
  pub results : List StmtResult

-- a thread that is not there
abbrev pub no_run : RunAt
no_run = record { thread = record { target = 0; thread = 0; patience = 0; clean = []; place = 0; block = []; stage = Over }; results = [] }

-- what a step of a thread leaves: what all share, and the thread
pub record ThreadStep : Type 0 where
  pub shared : SharedAt
  pub run : RunAt

-- the thread goes on, with one result more if its statement ended
abbrev pub goes_on : RunAt → SharedAt → ThreadNext → ThreadStep
goes_on x shared next = record { shared = shared; run = record { thread = next.thread; results = x.results ++ option_to_list next.ended } }

-- by what the step found
abbrev pub by_effect : Script → RunAt → Effect → ThreadStep
by_effect script x e = goes_on x e.shared (thread_after script x.thread e.seen)

-- one step of a thread, which is a row of its table
abbrev pub thread_step : Script → SharedAt → RunAt → ThreadStep
thread_step script s x = by_effect script x (on_word s (thread_plan script x.thread))

-- if the step of a thread ends its statement there is room for the result
abbrev pub HasRoom : Script → SharedAt → RunAt → Type 0
HasRoom script s x = IfSome (thread_after script x.thread (on_word s (thread_plan script x.thread)).seen).ended (λ r. length x.results < most_statements)

-- each of a target's threads is after its last statement
abbrev pub are_over : List RunAt → Bool
are_over runs = list_all (λ x. is_over x.thread.stage) runs

-- the first of a target's threads, in order, with a statement that has not ended, as target and thread
abbrev pub unfinished_of : Script → List RunAt → Option (ℕ × ℕ)
unfinished_of script [] = None
unfinished_of script (x ∷ xs) = if is_finished script x.thread then unfinished_of script xs else Some (x.thread.target, x.thread.thread)

-- the first of all
abbrev pub or_else : Option (ℕ × ℕ) → Option (ℕ × ℕ) → Option (ℕ × ℕ)
or_else (Some first) more = Some first
or_else None more = more

abbrev pub first_unfinished : Script → List (List RunAt) → Option (ℕ × ℕ)
first_unfinished script [] = None
first_unfinished script (threads ∷ others) = or_else (unfinished_of script threads) (first_unfinished script others)
