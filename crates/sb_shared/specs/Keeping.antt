-- What the memory of a worker's seat holds.
use Rattle.std.specs.Prelude.{◌≡◌, ℕ, List, Option, None, Some, IfSome}
use Rattle.sb_actor.specs.WorkerStages.{WorkerAt}
use Rattle.sb_actor.specs.WorkerTable.{taken_in}
use Rattle.sb_block.specs.Copies.{Copied}
use Rattle.sb_book.specs.Decisions.{decision_of}
use Rattle.sb_book.specs.Histories.{History}
use Rattle.sb_book.specs.declared.decisions.Decision.{Decision}
use Rattle.sb_rule.specs.Verdicts.{policy_at}
use Rattle.sb_rule.specs.declared.policies.Policy.{Policy}
use Rattle.sb_shared.specs.Origins.{setting_in}
use Rattle.sb_shared.specs.Plays.{Placed}
use Rattle.sb_shared.specs.Seats.{IsWorker, Lies, worker_in}

-- the decision on a copy, by the policy of the target
abbrev pub decision_on : List Policy → ℕ → Option Copied → Option Decision
decision_on policies target None = None
decision_on policies target (Some taken) = Some (decision_of (policy_at policies target) taken)

-- a decision that was made is the one on this copy
abbrev pub IsDecided : List Policy → ℕ → Option Copied → Option Decision → Type 0
IsDecided policies target taken decision = IfSome decision (λ d. decision_on policies target taken ≡ Some d)

-- The state and the book are those of the worker, the book's place is with the seat while the worker has the turn, and a decision is the one on the
-- present copy
pub record IsBody (me : Placed) (state : WorkerAt) (book : Option History) (decision : Option Decision) : Type 0 where
  pub worker : IsWorker me.0
  pub state_is : state ≡ (worker_in me.0.parts).state
  pub book_is : book ≡ (worker_in me.0.parts).book
  pub lies : Lies book me.1
  pub decided : IsDecided (setting_in me.0.key).policies state.target (taken_in state.stage) decision
