use Rattle.std.proofs.Common.{◌≡◌, ◌<◌, ◌≤◌, [], ℕ, length}
use Rattle.sb_cover.specs.Pruning.{is_true}
use Rattle.sb_cover.specs.TextMachines.{told}
use Rattle.sb_cover.proofs.picking.truths_of.Given as goal

abbrev pub invariant-loop-number : goal.invariant-loop-number
invariant-loop-number l = record {
  many : length l.truths.items ≡ l.number;
  told : (n : ℕ) → n < l.number → is_true l.truths.items n ≡ told l.table.conds.items l.table.patterns.items l.positions [] n;
}
