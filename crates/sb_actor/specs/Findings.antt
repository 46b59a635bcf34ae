-- What a thread comes to by the values that its steps found, over all its statements.
use Rattle.std.specs.Prelude.{◌≡◌, ℕ, zero, suc, ◌+◌, true, List, [], ◌∷◌, ◌++◌, length, slice_get, Some}
use Rattle.std.specs.Option.{option_to_list}
use Rattle.sb_actor.specs.Acts.{value_in}
use Rattle.sb_actor.specs.Causes.{CauseOf, CauseOfWait, Ends}
use Rattle.sb_actor.specs.Places.{begins, clean_channels, mark_at, statement_at, thread_start}
use Rattle.sb_actor.specs.ThreadStages.{ThreadAt}
use Rattle.sb_actor.specs.ThreadTable.{thread_after}
use Rattle.sb_actor.specs.Observations.{Observation}
use Rattle.sb_actor.specs.Observations.{Value}
use Rattle.sb_block.specs.Blocks.{block}
use Rattle.sb_statements.specs.Soundness.{is_sound}
use Rattle.sb_statements.specs.declared.results.CallResult.{CallResult}
use Rattle.sb_statements.specs.declared.results.StmtResult.{StmtResult}
use Rattle.sb_statements.specs.declared.results.StmtResult.TheVariants as result
use Rattle.sb_statements.specs.declared.scripts.Script.{Script}
use Rattle.sb_statements.specs.declared.statements.Statement.{Statement}
use Rattle.sb_statements.specs.declared.statements.Statement.TheVariants as statement

-- where a thread is after steps that found these values, in turn
abbrev pub after_values : Script → ThreadAt → List ℕ → ThreadAt
after_values script x [] = x
after_values script x (n ∷ values) = after_values script (thread_after script x (Value n)).thread values

-- and the results of the statements that they ended
abbrev pub results_of_values : Script → ThreadAt → List ℕ → List StmtResult
results_of_values script x [] = []
results_of_values script x (n ∷ values) = option_to_list (thread_after script x (Value n)).ended ++ results_of_values script (thread_after script x (Value n)).thread values

-- of what a step found its value alone matters
abbrev pub ValuesTell : Type 0
ValuesTell = (script : Script) (x : ThreadAt) (seen : Observation) → thread_after script x seen ≡ thread_after script x (Value (value_in seen))

-- These values end with the one that brought the latest of i results: there are none before the first result, and otherwise fewer results without the last value
abbrev pub EndsAtResult : Script → ThreadAt → ℕ → List ℕ → Type 0
EndsAtResult script x zero before = before ≡ []
EndsAtResult script x (suc i) before = (front : List ℕ) × (n : ℕ) × (before ≡ front ++ n ∷ []) × (length (results_of_values script x front) ≡ i)

-- Among these steps, from the beginning of a statement, result i has its own: after as many results as that, and just then, the thread began the statement at
-- that place, and the steps that followed found values and a last one, which ended it so
pub record HasSteps (script : Script) (x : ThreadAt) (values : List ℕ) (i : ℕ) (r : StmtResult) : Type 0 where
  pub before : List ℕ
  pub found : List ℕ
  pub last : ℕ
  pub later : List ℕ
  pub is : values ≡ before ++ (found ++ last ∷ later)
  pub earlier : length (results_of_values script x before) ≡ i
  pub latest : EndsAtResult script x i before
  pub begun : after_values script x before ≡ begins script x (x.place + i)
  pub ends : Ends script (after_values script x before) found last r

abbrev pub ResultsHaveSteps : Type 0
ResultsHaveSteps = (script : Script) (x : ThreadAt) (values : List ℕ) (i : ℕ) (r : StmtResult) → x ≡ begins script x x.place
    → slice_get (results_of_values script x values) i ≡ Some r → HasSteps script x values i r

-- Why the statement at place i of thread k of target t ended so, by the values that its steps found and the last of them: a call for the cause of its
-- result, a wait by its loads, and each other one at its only step, with the value that this found
abbrev pub HasCause : Script → ℕ → ℕ → ℕ → List ℕ → ℕ → Statement → StmtResult → Type 0
HasCause script t k i found last (statement.Call tag args) r =
    (q : CallResult) × (r ≡ result.Call q) × CauseOf (clean_channels script t) script.patience (length (block tag args (mark_at k i))) (mark_at k i) found last q
HasCause script t k i found last (statement.Store u word value) r = (found ≡ []) × (r ≡ result.Stored)
HasCause script t k i found last (statement.Exchange u word from to) r = (found ≡ []) × (r ≡ result.Found last)
HasCause script t k i found last (statement.Load u word) r = (found ≡ []) × (r ≡ result.Found last)
HasCause script t k i found last (statement.Wait u word value most) r = CauseOfWait value most found last r

-- Of the values that the steps of thread k of target t found from its start, some are those of its statement at place i, from its beginning to its end: before
-- them i statements ended, the latest with the value just before them, and the thread began that one; and it ended with this result for the cause in them
pub record IsCaused (script : Script) (t k : ℕ) (values : List ℕ) (i : ℕ) (r : StmtResult) : Type 0 where
  pub before : List ℕ
  pub found : List ℕ
  pub last : ℕ
  pub later : List ℕ
  pub is : values ≡ before ++ (found ++ last ∷ later)
  pub earlier : length (results_of_values script (thread_start script t k) before) ≡ i
  pub latest : EndsAtResult script (thread_start script t k) i before
  pub begun : after_values script (thread_start script t k) before ≡ begins script (thread_start script t k) i
  pub its_statement : Statement
  pub listed : statement_at script t k i ≡ Some its_statement
  pub cause : HasCause script t k i found last its_statement r

-- each result of a thread of a sound script has its cause
abbrev pub ResultsHaveCauses : Type 0
ResultsHaveCauses = (script : Script) (t k : ℕ) (values : List ℕ) (i : ℕ) (r : StmtResult) → is_sound script ≡ true
    → slice_get (results_of_values script (thread_start script t k) values) i ≡ Some r → IsCaused script t k values i r
