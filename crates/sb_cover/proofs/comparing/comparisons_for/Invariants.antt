use Rattle.std.proofs.Common.{◌≡◌, ◌<◌, ◌^◌, ℕ, true}
use Rattle.sb_call.specs.declared.arguments.Arg.TheVariants as arg
use Rattle.sb_cover.specs.AskedConds.{met}
use Rattle.sb_cover.specs.Bits.{CompareAlike}
use Rattle.sb_cover.specs.Pruning.{is_needed}
use Rattle.sb_cover.proofs.comparing.comparisons_for.Given as goal

abbrev pub invariant-loop-number : goal.invariant-loop-number
invariant-loop-number l = (a b : ℕ) → a < 2 ^ 64 → b < 2 ^ 64 → CompareAlike l.comparisons.items a b
    → (n : ℕ) → n < l.number → is_needed l.needed n ≡ true → met l.conds (arg.Num a) n ≡ met l.conds (arg.Num b) n
