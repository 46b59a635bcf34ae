use Rattle.std.specs.Prelude.{nat_lt}
use Rattle.std.proofs.Common.{◌≡◌, ◌&&◌, ℕ, List}
use Rattle.sb_rule.specs.Matching.{matches}
use Rattle.sb_rule.specs.declared.cells.Cell.{Cell}
use Rattle.sb_cover.specs.AskedConds.{cond_at, is_text}
use Rattle.sb_cover.specs.Positions.{cells_at, tells}
use Rattle.sb_cover.proofs.text_machines.first_positions.Given as goal

abbrev pub invariant-loop-number : goal.invariant-loop-number
invariant-loop-number l = (patterns : List (List Cell)) (n : ℕ) (units : List ℕ)
    → tells patterns l.positions.items n units ≡ (nat_lt n l.number && (is_text (cond_at l.conds n).cond.test && matches (cells_at patterns n) units))
