use Rattle.std.proofs.Common.{length}
use Rattle.sb_transcript.specs.Printable.{Each, ArePrintableResults}
use Rattle.sb_audit.proofs.printable.establish_results.Given as goal

-- it holds of all if it does of those that are left
abbrev pub invariant-loop-first : goal.invariant-loop-first
invariant-loop-first l = Each ArePrintableResults l.rest → Each ArePrintableResults l.initial.rest

abbrev pub decreases-loop-first : goal.decreases-loop-first
decreases-loop-first l = length l.rest
