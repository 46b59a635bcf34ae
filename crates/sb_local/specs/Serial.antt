-- The namespace after the calls of a script, performed one after another.
use Rattle.std.specs.Prelude.{◌≡◌, ◌≢◌, ℕ, ◌+◌, Bool, true, false, List, [], ◌∷◌, slice_get}
use Rattle.std.specs.List.{list_all}
use Rattle.sb_actor.specs.Places.{threads_of}
use Rattle.sb_block.specs.Blocks.{block}
use Rattle.sb_block.specs.Copies.{whole}
use Rattle.sb_book.specs.Decisions.{decision_of}
use Rattle.sb_book.specs.Histories.{space_after}
use Rattle.sb_kernel.specs.Namespaces.{Space}
use Rattle.sb_kernel.specs.Openings.{opening}
use Rattle.sb_rule.specs.Verdicts.{policy_at}
use Rattle.sb_rule.specs.declared.policies.Policy.{Policy}
use Rattle.sb_statements.specs.declared.scripts.Script.{Script}
use Rattle.sb_statements.specs.declared.scripts.TargetScript.{TargetScript}
use Rattle.sb_statements.specs.declared.statements.Statement.{Statement}
use Rattle.sb_statements.specs.declared.statements.Statement.TheVariants.{Call, Store, Exchange, Load, Wait}

-- the namespace after a call of a target: if the decision on the whole of its block is Performed, the arguments in that decision are performed, and otherwise
-- nothing changes. The mark makes no difference. Other statements change nothing
abbrev pub serial_statement : Policy → ℕ → Space → Statement → Space
serial_statement policy t space (Call tag args) = space_after space t (decision_of policy (whole (block tag args 0)))
serial_statement policy t space (Store target word value) = space
serial_statement policy t space (Exchange target word from to) = space
serial_statement policy t space (Load target word) = space
serial_statement policy t space (Wait target word value most) = space

-- after the statements of a thread
abbrev pub serial_thread : Policy → ℕ → Space → List Statement → Space
serial_thread policy t space [] = space
serial_thread policy t space (statement ∷ more) = serial_thread policy t (serial_statement policy t space statement) more

-- after those of the threads of a target
abbrev pub serial_threads : Policy → ℕ → Space → List (List Statement) → Space
serial_threads policy t space [] = space
serial_threads policy t space (statements ∷ more) = serial_threads policy t (serial_thread policy t space statements) more

-- and after those of targets, of which the first has this number
abbrev pub serial_targets : List Policy → ℕ → Space → List TargetScript → Space
serial_targets policies t space [] = space
serial_targets policies t space (target ∷ more) =
    serial_targets policies (t + 1) (serial_threads (policy_at policies t) t space target.threads) more

-- the namespace of a script, under a policy for each target, after all its calls by target, thread and place
abbrev pub serial : List Policy → Script → Space
serial policies script = serial_targets policies 0 (opening script.start) script.targets

-- the statement is a call
abbrev pub is_call : Statement → Bool
is_call (Call tag args) = true
is_call (Store target word value) = false
is_call (Exchange target word from to) = false
is_call (Load target word) = false
is_call (Wait target word value most) = false

-- the script has one thread, of this target, and it has only calls
pub record HasOneThread (script : Script) (t : ℕ) (statements : List Statement) : Type 0 where
  pub its : threads_of (slice_get script.targets t) ≡ statements ∷ []
  pub others : (u : ℕ) → u ≢ t → threads_of (slice_get script.targets u) ≡ []
  pub calls : list_all is_call statements ≡ true
