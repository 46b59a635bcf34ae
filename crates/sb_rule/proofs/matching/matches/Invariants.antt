use Rattle.std.proofs.Common.{◌≡◌, ◌++◌, List, ℕ, length}
use Rattle.sb_rule.specs.Rows.{IsRow}
use Rattle.sb_rule.proofs.matching.matches.Given as goal

abbrev pub invariant-loop-unit : goal.invariant-loop-unit
invariant-loop-unit l = (after : List ℕ) × (l.before ++ after ≡ l.units) × IsRow l.cells after l.row

abbrev pub decreases-loop-unit : goal.decreases-loop-unit
decreases-loop-unit l = length l.before
