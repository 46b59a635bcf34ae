-- The order of results, statement by statement.
use Rattle.std.proofs.Common.{◌≡◌, ℕ, option_map, slice_get}
use Rattle.std.proofs.lemmas.Option.{slice_get-map}
use Rattle.sb_statements.specs.PlacedStatements.{placed_statements}
use Rattle.sb_statements.specs.declared.scripts.Script.{Script}
use Rattle.sb_audit.specs.Spots.{due_spot, spot_at}

-- what is due is where the statement of this number is
pub due : (script : Script) (n : ℕ) → due_spot script n ≡ option_map spot_at (slice_get (placed_statements script) n)
due script n = slice_get-map spot_at (placed_statements script) n
