use Rattle.std.proofs.Common.{◌≡◌, ℕ, List, length}
use Rattle.sb_cover.specs.Pruning.{AreSure}
use Rattle.sb_cover.specs.TextMachines.{told}
use Rattle.sb_cover.proofs.signs.signs_of.Given as goal

abbrev pub invariant-loop-number : goal.invariant-loop-number
invariant-loop-number l = record {
  fails : length l.fails.items ≡ l.number;
  holds : length l.holds.items ≡ l.number;
  sure : (later : List ℕ) → AreSure l.fails.items l.holds.items (told l.table.conds.items l.table.patterns.items l.positions later);
}
