use Rattle.std.proofs.Common.{◌≡◌, length}
use Rattle.sb_explain.specs.LineNumbers.{after_threads}
use Rattle.sb_explain.proofs.line_numbers.after_threads.Given as goal

abbrev pub invariant-loop-statements : goal.invariant-loop-statements
invariant-loop-statements l = after_threads l.threads l.lines ≡ after_threads l.initial.threads l.initial.lines

abbrev pub decreases-loop-statements : goal.decreases-loop-statements
decreases-loop-statements l = length l.threads
