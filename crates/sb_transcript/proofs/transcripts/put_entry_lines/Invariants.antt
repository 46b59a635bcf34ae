use Rattle.std.proofs.Common.{◌≡◌, ◌+◌, ◌++◌, length}
use Rattle.sb_transcript.specs.LineBuffers.{cut_by, total}
use Rattle.sb_transcript.specs.Transcripts.{entry_lines}
use Rattle.sb_transcript.proofs.transcripts.put_entry_lines.Given as goal

abbrev pub invariant-loop-entry : goal.invariant-loop-entry
invariant-loop-entry l =
    (cut_by l.lengths.items l.bytes.items ++ entry_lines l.script l.n l.rest
    ≡ cut_by l.initial.lengths.items l.initial.bytes.items ++ entry_lines l.script 0 l.entries)
    × (total l.lengths.items ≡ length l.bytes.items)
    × (l.n + length l.rest ≡ l.count)

abbrev pub decreases-loop-entry : goal.decreases-loop-entry
decreases-loop-entry l = length l.rest
