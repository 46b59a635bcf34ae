-- The order in which the results of a script are due.
use Rattle.std.specs.Prelude.{ℕ, List, map, Option, slice_get}
use Rattle.sb_statements.specs.PlacedStatements.{Placed, placed_statements}
use Rattle.sb_statements.specs.declared.scripts.Script.{Script}
use Rattle.sb_audit.specs.declared.spots.Spot.{Spot}

-- where a statement is
abbrev pub spot_at : Placed → Spot
spot_at p = record { target = p.target; thread = p.thread; place = p.place }

-- where the statements of a script are, by target, thread and place
abbrev pub spots : Script → List Spot
spots script = map spot_at (placed_statements script)

-- the statement whose result is due after this number of results, if there is one
abbrev pub due_spot : Script → ℕ → Option Spot
due_spot script results = slice_get (spots script) results
