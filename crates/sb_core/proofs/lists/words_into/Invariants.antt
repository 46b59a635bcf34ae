use Rattle.std.proofs.Common.{◌≡◌}
use Rattle.sb_core.proofs.lists.words_into.Given as goal

abbrev pub invariant-loop-target : goal.invariant-loop-target
invariant-loop-target l = l.lists.items ≡ l.yielded
