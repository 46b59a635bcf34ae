use Rattle.std.proofs.Common.{◌≡◌, ◌+◌, ◌≤◌, true, length}
use Rattle.std.specs.Prelude.{slice_get}
use Rattle.std.specs.List.{list_all}
use Rattle.sb_statements.specs.PlacedStatements.{is_short_target, placed_in_targets, placed_statements}
use Rattle.sb_statements.proofs.sound_scripts.SoundScript.nth_statement.Given as goal

-- what is left of the targets has the same statement
abbrev pub invariant-loop-script : goal.invariant-loop-script
invariant-loop-script l =
    (slice_get (placed_in_targets l.target l.rest) l.left ≡ slice_get (placed_statements l.self) l.n)
    × (l.target + length l.rest ≤ 8) × (list_all is_short_target l.rest ≡ true)

abbrev pub decreases-loop-script : goal.decreases-loop-script
decreases-loop-script l = length l.rest
