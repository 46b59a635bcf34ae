-- The strings of a script's calls are made of units of 16 bits, as those of every script that was read are.
use Rattle.std.specs.Prelude.{Bool, true, List}
use Rattle.std.specs.List.{list_all}
use Rattle.sb_block.specs.Blocks.{has_units}
use Rattle.sb_statements.specs.declared.scripts.Script.{Script}
use Rattle.sb_statements.specs.declared.scripts.TargetScript.{TargetScript}
use Rattle.sb_statements.specs.declared.statements.Statement.{Statement}
use Rattle.sb_statements.specs.declared.statements.Statement.TheVariants.{Call, Store, Exchange, Load, Wait}

-- the strings of a call are made of units, and other statements have no strings
abbrev pub statement_has_units : Statement → Bool
statement_has_units (Call tag args) = list_all has_units args
statement_has_units (Store target word value) = true
statement_has_units (Exchange target word from to) = true
statement_has_units (Load target word) = true
statement_has_units (Wait target word value most) = true

-- so are those of each statement of a thread
abbrev pub thread_has_units : List Statement → Bool
thread_has_units statements = list_all statement_has_units statements

-- of each thread of a target
abbrev pub target_has_units : TargetScript → Bool
target_has_units target = list_all thread_has_units target.threads

-- and of each target of a script
abbrev pub script_has_units : Script → Bool
script_has_units script = list_all target_has_units script.targets
