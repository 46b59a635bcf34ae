use Rattle.std.proofs.Common.{◌≡◌, ◌<◌, ℕ, true, length}
use Rattle.sb_call.specs.declared.arguments.Arg.TheVariants as arg
use Rattle.sb_cover.specs.AskedConds.{met}
use Rattle.sb_cover.specs.Pruning.{is_needed, is_true}
use Rattle.sb_cover.proofs.number_picking.truths_of.Given as goal

abbrev pub invariant-loop-place : goal.invariant-loop-place
invariant-loop-place l = record {
  many : length l.truths.items ≡ l.place;
  met : (n : ℕ) → n < l.place → is_needed l.needed n ≡ true → met l.conds (arg.Num l.number) n ≡ is_true l.truths.items n;
}
