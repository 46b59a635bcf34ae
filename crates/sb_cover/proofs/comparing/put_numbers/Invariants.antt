use Rattle.std.specs.List.{list_any}
use Rattle.std.specs.Prelude.{◌==◌, bit_and}
use Rattle.std.proofs.Common.{◌≡◌, ℕ, take}
use Rattle.sb_cover.specs.Bits.{CompareAlike}
use Rattle.sb_cover.specs.Comparing.{HasMore}
use Rattle.sb_cover.proofs.comparing.put_numbers.Given as goal

abbrev pub invariant-loop-number : goal.invariant-loop-number
invariant-loop-number l = record {
  more : HasMore l.fn.comparisons.items l.comparisons.items;
  tells : (a b : ℕ) → CompareAlike l.comparisons.items a b
      → list_any (λ n. n == bit_and a l.mask) (take l.number-index l.numbers) ≡ list_any (λ n. n == bit_and b l.mask) (take l.number-index l.numbers);
}
