-- One result for each statement, at its place.
use Rattle.std.specs.Prelude.{◌≡◌, ℕ, Bool, true, false, List, [], length, slice_get, slice_index_or, Option, Some}
use Rattle.sb_actor.specs.Places.{statement_at}
use Rattle.sb_statements.specs.Actors.{thread_count}
use Rattle.sb_statements.specs.declared.results.StmtResult.{StmtResult}
use Rattle.sb_statements.specs.declared.results.StmtResult.TheVariants as result
use Rattle.sb_statements.specs.declared.scripts.Script.{Script}
use Rattle.sb_statements.specs.declared.statements.Statement.{Statement}
use Rattle.sb_statements.specs.declared.statements.Statement.TheVariants as statement

-- the result of the statement at a place of a thread
abbrev pub result_at : List (List (List StmtResult)) → ℕ → ℕ → ℕ → Option StmtResult
result_at results target thread place = slice_get (slice_index_or (slice_index_or results target []) thread []) place

-- a call has what became of the call, a store was stored, an exchange and a load found a value, and a wait met its value or did not
abbrev pub is_result_of : Statement → StmtResult → Bool
is_result_of (statement.Call tag args) (result.Call r) = true
is_result_of (statement.Store target word value) result.Stored = true
is_result_of (statement.Exchange target word from to) (result.Found n) = true
is_result_of (statement.Load target word) (result.Found n) = true
is_result_of (statement.Wait target word value most) (result.Met loads) = true
is_result_of (statement.Wait target word value most) (result.Unmet loads) = true
is_result_of _ _ = false

-- each result is that of the statement at its place
abbrev pub ResultsFit : Script → List (List (List StmtResult)) → Type 0
ResultsFit script results = (t k i : ℕ) (r : StmtResult) → result_at results t k i ≡ Some r
    → (s : Statement) × (statement_at script t k i ≡ Some s) × (is_result_of s r ≡ true)

-- and each statement has one, in a list for each thread of each target
pub record AreAllResults (script : Script) (results : List (List (List StmtResult))) : Type 0 where
  pub targets : length results ≡ length script.targets
  pub threads : (t : ℕ) → length (slice_index_or results t []) ≡ thread_count (slice_get script.targets t)
  pub fit : ResultsFit script results
  pub each : (t k i : ℕ) (s : Statement) → statement_at script t k i ≡ Some s → (r : StmtResult) × (result_at results t k i ≡ Some r)
