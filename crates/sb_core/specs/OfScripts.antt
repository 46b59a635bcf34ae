-- The worlds of a script: those that steps of its actors lead to from its start.
use Rattle.std.specs.Prelude.{◌≡◌, true, List}
use Rattle.sb_book.specs.Readiness.{IsReady}
use Rattle.sb_rule.specs.declared.policies.Policy.{Policy}
use Rattle.sb_statements.specs.Actors.{is_there}
use Rattle.sb_statements.specs.declared.schedules.Actor.{Actor}
use Rattle.sb_statements.specs.declared.scripts.Script.{Script}
use Rattle.sb_core.specs.Actors.{are_there}
use Rattle.sb_core.specs.Drains.{drained}
use Rattle.sb_core.specs.Kept.{IsRunning, IsWorld}
use Rattle.sb_core.specs.Worlds.{WorldAt, start_world, step, steps}

-- A world of a script: the script is ready for some policies, and steps of actors that are there lead to the world from its start. Which
-- steps these are need not be known: what holds of each world that they lead to holds of this one
pub record IsOfScript (script : Script) (w : WorldAt) : Type 0 where
  pub policies : List Policy
  pub actors : List Actor
  pub ready : IsReady policies script
  pub there : are_there script.targets actors ≡ true
  pub reached : w ≡ steps script actors (start_world policies script)

-- the start is one
abbrev pub StartsAreOfScripts : Type 0
StartsAreOfScripts = (policies : List Policy) (script : Script) → IsReady policies script → IsOfScript script (start_world policies script)

-- so is the world after a step of an actor that is there
abbrev pub StepsAreOfScripts : Type 0
StepsAreOfScripts = (script : Script) (w : WorldAt) (actor : Actor) → IsOfScript script w → is_there script.targets actor ≡ true
    → IsOfScript script (step script w actor)

-- and the world after a drain
abbrev pub DrainsAreOfScripts : Type 0
DrainsAreOfScripts = (script : Script) (w : WorldAt) → IsOfScript script w → IsOfScript script (drained w)

-- each keeps what every world keeps, and what a world keeps of its script
abbrev pub WorldsOfScriptsRun : Type 0
WorldsOfScriptsRun = (script : Script) (w : WorldAt) → IsOfScript script w → IsWorld w × IsRunning script w
