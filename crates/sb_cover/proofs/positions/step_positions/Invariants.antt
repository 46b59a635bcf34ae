use Rattle.std.proofs.Common.{◌≡◌, ◌∷◌, ℕ, List, take}
use Rattle.sb_cover.specs.Positions.{tells}
use Rattle.sb_cover.proofs.positions.step_positions.Given as goal

abbrev pub invariant-loop-position : goal.invariant-loop-position
invariant-loop-position l = (k : ℕ) (later : List ℕ) → tells l.patterns l.next.items k later ≡ tells l.patterns (take l.position-index l.positions) k (l.unit ∷ later)
