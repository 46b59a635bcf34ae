-- Each order of steps that is short enough is a replay.
use Rattle.std.specs.Prelude.{◌≡◌, ◌≤◌, ℕ, true, List, [], ◌∷◌, length, Some, Ok}
use Rattle.sb_core.specs.Actors.{are_there, scheduled}
use Rattle.sb_core.specs.Runs.{CanRun, ended_from}
use Rattle.sb_core.specs.Worlds.{start_world, steps}
use Rattle.sb_rule.specs.declared.policies.Policy.{Policy}
use Rattle.sb_scripttext.specs.ScheduleLimits.{most_steps}
use Rattle.sb_scripttext.specs.SchedulePrinting.{in_order, written}
use Rattle.sb_statements.specs.declared.schedules.Actor.{Actor}
use Rattle.sb_statements.specs.declared.schedules.Schedule.{Schedule}
use Rattle.sb_statements.specs.declared.scripts.Script.{Script}
use Rattle.sb_plain.specs.Contents.{Content, most_bytes, policies_in, script_in}
use Rattle.sb_plain.specs.Ends.{IsOrderOf}
use Rattle.sb_plain.specs.Replay.{replay_end, run_end, whole_run}

-- the text of the schedule in which each of these actors makes one step, in turn, and after which there are no rounds
abbrev pub order_text : List Actor → List ℕ
order_text actors = written (in_order actors 0)

-- The text of the order may be read from a file; a replay that finds it there ends as the run by it; the script can be run so; and this run is that of the
-- world to which the steps of these actors lead from the start
pub record IsReplayed (policy file : Content) (policies : List Policy) (script : Script) (actors : List Actor) : Type 0 where
  pub short : length (order_text actors) ≤ most_bytes
  pub meant : replay_end (policy ∷ file ∷ Some (order_text actors) ∷ []) ≡ Ok (run_end policies script (in_order actors 0))
  pub can : CanRun policies script (in_order actors 0)
  pub is : whole_run policies script (in_order actors 0) ≡ ended_from script (steps script actors (start_world policies script))

-- so is each order of at most 100,000 steps of a script's actors, over files that hold the policies, the script and the order
abbrev pub OrdersAreReplayed : Type 0
OrdersAreReplayed = (policy file : Content) (policies : List Policy) (script : Script) (actors : List Actor)
    → policies_in policy ≡ Ok policies → script_in policies file ≡ Ok script
    → are_there script.targets actors ≡ true → length actors ≤ most_steps
    → IsReplayed policy file policies script actors

-- and so is each run on threads whose steps, in some order, are as few: the replay of that order ends as the run does
abbrev pub ThreadedRunsAreReplayed : Type 0
ThreadedRunsAreReplayed = (policy file : Content) (policies : List Policy) (script : Script) (order : Schedule)
    → policies_in policy ≡ Ok policies → script_in policies file ≡ Ok script → IsOrderOf order (run_end policies script order)
    → length (scheduled order.steps) ≤ most_steps
    → IsReplayed policy file policies script (scheduled order.steps)
    × (run_end policies script (in_order (scheduled order.steps) 0) ≡ run_end policies script order)
