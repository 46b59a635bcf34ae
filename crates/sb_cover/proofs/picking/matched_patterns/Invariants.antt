use Rattle.std.specs.Prelude.{nat_lt}
use Rattle.std.proofs.Common.{◌≡◌, ◌&&◌, [], ℕ, length, take}
use Rattle.sb_cover.specs.Positions.{tells}
use Rattle.sb_cover.specs.Pruning.{is_true}
use Rattle.sb_cover.proofs.picking.matched_patterns.Given as goal

abbrev pub invariant-loop-position : goal.invariant-loop-position
invariant-loop-position l = record {
  long : length l.matched.items ≡ l.count;
  told : (n : ℕ) → is_true l.matched.items n ≡ (nat_lt n l.count && tells l.patterns (take l.position-index l.positions) n []);
}
