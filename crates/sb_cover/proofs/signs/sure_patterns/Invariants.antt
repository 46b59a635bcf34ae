use Rattle.std.proofs.Common.{◌≡◌, ℕ, List, true, take}
use Rattle.sb_cover.specs.Positions.{tells}
use Rattle.sb_cover.specs.Pruning.{is_true}
use Rattle.sb_cover.proofs.signs.sure_patterns.Given as goal

abbrev pub invariant-loop-position : goal.invariant-loop-position
invariant-loop-position l = (n : ℕ) (later : List ℕ) → is_true l.sure.items n ≡ true → tells l.patterns (take l.position-index l.positions) n later ≡ true
