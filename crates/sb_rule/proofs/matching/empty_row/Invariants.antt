use Rattle.std.proofs.Common.{◌≤◌, [], length}
use Rattle.sb_rule.proofs.Rows.{IsRowFrom}
use Rattle.sb_rule.proofs.matching.empty_row.Given as goal

abbrev pub invariant-loop-at : goal.invariant-loop-at
invariant-loop-at l = record { within : l.at ≤ length l.cells; made : IsRowFrom l.at l.cells [] l.row }

abbrev pub decreases-loop-at : goal.decreases-loop-at
decreases-loop-at l = l.at
