use Rattle.std.proofs.Common.{◌≡◌, ◌+◌, length}
use Rattle.sb_transcript.specs.Counts.{no_counts, sum_of, with_entries}
use Rattle.sb_transcript.proofs.counts.decision_counts.Given as goal

abbrev pub invariant-loop-entry : goal.invariant-loop-entry
invariant-loop-entry l =
    (with_entries l.counts l.rest ≡ with_entries no_counts l.entries)
    × (sum_of l.counts + length l.rest ≡ l.count)

abbrev pub decreases-loop-entry : goal.decreases-loop-entry
decreases-loop-entry l = length l.rest
