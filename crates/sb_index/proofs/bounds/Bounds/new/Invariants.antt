use Rattle.std.proofs.Common.{◌≡◌, ◌≤◌, ◌++◌, drop, length}
use Rattle.sb_index.specs.Bounds.{IsRising, first_of, rising_above}
use Rattle.sb_index.proofs.bounds.Bounds.new.Given as goal

abbrev pub invariant-loop-number : goal.invariant-loop-number
invariant-loop-number l =
    IsRising l.items.items × (length l.items.items ≤ l.most) × (l.last ≡ first_of l.items.items (length l.items.items))
    × (l.items.items ++ rising_above l.last (drop l.number-index l.numbers) ≡ rising_above 0 l.numbers)
