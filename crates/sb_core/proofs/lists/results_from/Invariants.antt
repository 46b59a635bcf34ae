use Rattle.std.proofs.Common.{◌≡◌}
use Rattle.sb_core.specs.Reports.{results_of}
use Rattle.sb_core.proofs.lists.results_from.Given as goal

abbrev pub invariant-loop-target : goal.invariant-loop-target
invariant-loop-target l = l.results.items ≡ results_of l.yielded
