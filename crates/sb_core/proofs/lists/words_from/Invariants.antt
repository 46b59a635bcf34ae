use Rattle.std.proofs.Common.{◌≡◌}
use Rattle.sb_core.proofs.lists.words_from.Given as goal

abbrev pub invariant-loop-list : goal.invariant-loop-list
invariant-loop-list l = l.targets.items ≡ l.yielded
