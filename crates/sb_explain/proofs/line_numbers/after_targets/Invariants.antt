use Rattle.std.proofs.Common.{◌≡◌, length}
use Rattle.sb_explain.specs.LineNumbers.{after_targets}
use Rattle.sb_explain.proofs.line_numbers.after_targets.Given as goal

abbrev pub invariant-loop-target : goal.invariant-loop-target
invariant-loop-target l = after_targets l.targets l.lines ≡ after_targets l.initial.targets l.initial.lines

abbrev pub decreases-loop-target : goal.decreases-loop-target
decreases-loop-target l = length l.targets
