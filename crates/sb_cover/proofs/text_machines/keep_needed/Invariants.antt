use Rattle.std.proofs.Common.{◌≡◌, ℕ, List, true, take}
use Rattle.sb_cover.specs.Positions.{tells}
use Rattle.sb_cover.specs.Pruning.{is_needed}
use Rattle.sb_rule.specs.declared.cells.Cell.{Cell}
use Rattle.sb_cover.proofs.text_machines.keep_needed.Given as goal

abbrev pub invariant-loop-position : goal.invariant-loop-position
invariant-loop-position l = (patterns : List (List Cell)) (n : ℕ) (later : List ℕ) → is_needed l.needed n ≡ true
    → tells patterns l.kept.items n later ≡ tells patterns (take l.position-index l.positions) n later
