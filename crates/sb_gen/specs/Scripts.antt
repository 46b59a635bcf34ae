-- The generated script.
use Rattle.std.specs.Prelude.{ℕ, zero, suc, ◌+◌, List, [], ◌∷◌, ◌++◌, codes}
use Rattle.std.specs.Fmt.{decimal}
use Rattle.sb_statements.specs.declared.scripts.Script.{Script}
use Rattle.sb_statements.specs.declared.scripts.StartLine.{StartLine}
use Rattle.sb_statements.specs.declared.scripts.StartLine.TheVariants.{Dir}
use Rattle.sb_statements.specs.declared.scripts.TargetScript.{TargetScript}
use Rattle.sb_statements.specs.declared.statements.Statement.{Statement}
use Rattle.sb_gen.specs.Generator.{after}
use Rattle.sb_gen.specs.Calls.{directory, statements_of}

-- how many loads or rounds a call waits
abbrev pub patience : ℕ
patience = 10000

-- the directories of n targets from this number on
abbrev pub directories_of : ℕ → ℕ → List StartLine
directories_of target zero = []
directories_of target (suc n) = Dir (directory target) ∷ directories_of (target + 1) n

-- the directory `\make`, and in it one for each target
abbrev pub start_of : ℕ → List StartLine
start_of targets = Dir (codes "\\make") ∷ directories_of 0 targets

-- `mT`: the name of target T
abbrev pub name_of : ℕ → List ℕ
name_of target = codes "m" ++ decimal target

-- two threads with this number of statements each, one made after the other
abbrev pub threads_of : ℕ → ℕ → ℕ → List (List Statement)
threads_of target calls x = statements_of target calls x ∷ statements_of target calls (after calls x) ∷ []

-- a target of the first policy, with two channels and two threads
abbrev pub target_of : ℕ → ℕ → ℕ → TargetScript
target_of target calls x = record { name = name_of target; policy = 0; channels = 2; threads = threads_of target calls x }

-- n targets from this number on, one made after the other
abbrev pub targets_of : ℕ → ℕ → ℕ → ℕ → List TargetScript
targets_of target zero calls x = []
targets_of target (suc n) calls x = target_of target calls x ∷ targets_of (target + 1) n calls (after calls (after calls x))

-- the script made from a seed, with this number of targets, and of statements (calls) in each thread
abbrev pub script_of : ℕ → ℕ → ℕ → Script
script_of seed targets calls = record { patience = patience; start = start_of targets; targets = targets_of 0 targets calls seed }
