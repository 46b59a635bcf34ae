-- The statements of a script one after another, each with its place.
use Rattle.std.specs.Prelude.{◌≡◌, ℕ, ◌+◌, Bool, true, ◌&&◌, nat_le, nat_lt, List, [], ◌∷◌, ◌++◌, length}
use Rattle.std.specs.List.{list_all}
use Rattle.sb_statements.specs.Limits.{most_statements, most_threads}
use Rattle.sb_statements.specs.Soundness.{is_sound, is_statement}
use Rattle.sb_statements.specs.Units.{script_has_units, statement_has_units}
use Rattle.sb_statements.specs.declared.placed_statements.PlacedStatement.{PlacedStatement}
use Rattle.sb_statements.specs.declared.scripts.Script.{Script}
use Rattle.sb_statements.specs.declared.scripts.TargetScript.{TargetScript}
use Rattle.sb_statements.specs.declared.statements.Statement.{Statement}

-- a statement, and where it is: its target, its thread and its place there, each from 0
pub record Placed : Type 0 where
  pub target : ℕ
  pub thread : ℕ
  pub place : ℕ
  pub statement : Statement

-- the statement that is borrowed, with its place
abbrev pub placed : PlacedStatement → Placed
placed p = record { target = p.target; thread = p.thread; place = p.place; statement = p.statement.now }

-- the statements of a thread, the first of which has this place
abbrev pub placed_in_thread : ℕ → ℕ → ℕ → List Statement → List Placed
placed_in_thread target thread place [] = []
placed_in_thread target thread place (statement ∷ more) =
    record { target = target; thread = thread; place = place; statement = statement } ∷ placed_in_thread target thread (place + 1) more

-- those of the threads of a target, the first of which has this number
abbrev pub placed_in_threads : ℕ → ℕ → List (List Statement) → List Placed
placed_in_threads target thread [] = []
placed_in_threads target thread (statements ∷ more) = placed_in_thread target thread 0 statements ++ placed_in_threads target (thread + 1) more

-- those of targets, the first of which has this number
abbrev pub placed_in_targets : ℕ → List TargetScript → List Placed
placed_in_targets target [] = []
placed_in_targets target (first ∷ more) = placed_in_threads target 0 first.threads ++ placed_in_targets (target + 1) more

-- the statements of a script, by target, thread and place
abbrev pub placed_statements : Script → List Placed
placed_statements script = placed_in_targets 0 script.targets

-- a thread has at most 4,096 statements
abbrev pub is_short_thread : List Statement → Bool
is_short_thread statements = nat_le (length statements) most_statements

-- a target has at most 4 threads, each of them short
abbrev pub is_short_target : TargetScript → Bool
is_short_target target = nat_le (length target.threads) most_threads && list_all is_short_thread target.threads

-- the target of a statement is one of these, the statement is sound among them, and its strings are made of units
abbrev pub is_sound_in : List TargetScript → Placed → Bool
is_sound_in targets p = nat_lt p.target (length targets) && is_statement targets p.statement && statement_has_units p.statement

-- so are all statements of a sound script
abbrev pub PlacedStatementsAreSound : Type 0
PlacedStatementsAreSound = (script : Script) → is_sound script ≡ true → script_has_units script ≡ true
    → list_all (is_sound_in script.targets) (placed_statements script) ≡ true
