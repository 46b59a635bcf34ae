use Rattle.std.proofs.Common.{◌≡◌, ◌≤◌, ◌<◌, ◌∷◌, ℕ, List, false, length, get_or}
use Rattle.sb_rule.specs.Rows.{IsRow}
use Rattle.sb_rule.proofs.Rows.{IsRowFrom}
use Rattle.sb_rule.proofs.matching.put_unit.Given as goal

abbrev pub invariant-loop-at : goal.invariant-loop-at
invariant-loop-at l = record {
  within : l.at ≤ length l.cells;
  after : l.without_both ≡ get_or l.fn.row l.at false;
  kept : (place : ℕ) → place < l.at → get_or l.row place false ≡ get_or l.fn.row place false;
  made : (units : List ℕ) → IsRow l.cells units l.fn.row → IsRowFrom l.at l.cells (l.unit ∷ units) l.row;
}

abbrev pub decreases-loop-at : goal.decreases-loop-at
decreases-loop-at l = l.at
