use Rattle.std.proofs.Common.{length}
use Rattle.sb_transcript.specs.Printable.{Each, IsPrintableEntry}
use Rattle.sb_audit.proofs.printable.establish_entries.Given as goal

-- it holds of all if it does of those that are left
abbrev pub invariant-loop-entry : goal.invariant-loop-entry
invariant-loop-entry l = Each IsPrintableEntry l.rest → Each IsPrintableEntry l.initial.rest

abbrev pub decreases-loop-entry : goal.decreases-loop-entry
decreases-loop-entry l = length l.rest
