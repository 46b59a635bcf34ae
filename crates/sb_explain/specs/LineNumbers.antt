-- The lines of the statements of a script, in the order of the script.
use Rattle.std.specs.Prelude.{ℕ, List, [], ◌∷◌, length, drop, take, slice_get, slice_index}
use Rattle.sb_actor.specs.Places.{threads_of}
use Rattle.sb_explain.specs.declared.marks.CallPlace.{CallPlace}
use Rattle.sb_statements.specs.declared.scripts.Script.{Script}
use Rattle.sb_statements.specs.declared.scripts.TargetScript.{TargetScript}
use Rattle.sb_statements.specs.declared.statements.Statement.{Statement}

-- of lines, those after the lines of the statements of these threads
abbrev pub after_threads : List (List Statement) → List ℕ → List ℕ
after_threads [] lines = lines
after_threads (statements ∷ threads) lines = after_threads threads (drop (length statements) lines)

-- of lines, those after the lines of the statements of these targets
abbrev pub after_targets : List TargetScript → List ℕ → List ℕ
after_targets [] lines = lines
after_targets (target ∷ targets) lines = after_targets targets (after_threads target.threads lines)

-- the line of a statement of a target, 0 if there is none: the lines are those of all statements, by target, thread and place
abbrev pub line_of_statement : Script → List ℕ → ℕ → CallPlace → ℕ
line_of_statement script lines target call =
    slice_index
    (after_threads (take call.thread (threads_of (slice_get script.targets target))) (after_targets (take target script.targets) lines))
    call.place
