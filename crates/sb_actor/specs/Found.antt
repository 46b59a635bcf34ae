-- What holds of a statement of a sound script, and of its place.
use Rattle.std.specs.Prelude.{◌≡◌, ℕ, ◌<◌, Bool, true, ◌&&◌, List, IfSome}
use Rattle.std.specs.List.{list_all}
use Rattle.sb_block.specs.Blocks.{encodes, has_units}
use Rattle.sb_statements.specs.Limits.{most_statements, most_targets, most_threads}
use Rattle.sb_statements.specs.Soundness.{is_statement}
use Rattle.sb_statements.specs.declared.scripts.Script.{Script}
use Rattle.sb_statements.specs.declared.scripts.TargetScript.{TargetScript}
use Rattle.sb_statements.specs.declared.statements.Statement.{Statement}
use Rattle.sb_statements.specs.declared.statements.Statement.TheVariants.{Call, Store, Exchange, Load, Wait}
use Rattle.sb_actor.specs.Places.{statement_at}

-- a call encodes, and its strings are made of units
abbrev pub is_encoded : Statement → Bool
is_encoded (Call tag args) = encodes tag args && list_all has_units args
is_encoded _ = true

-- the statement at a place of a thread of a target, among these targets
pub record IsFound (targets : List TargetScript) (target thread place : ℕ) (s : Statement) : Type 0 where
  pub of_target : target < most_targets
  pub of_thread : thread < most_threads
  pub at_place : place < most_statements
  pub sound : is_statement targets s ≡ true
  pub encoded : is_encoded s ≡ true

-- each statement of a script is so at its place
pub record AreFound (script : Script) : Type 0 where
  pub each : (target thread place : ℕ) → IfSome (statement_at script target thread place) (λ s. IsFound script.targets target thread place s)
