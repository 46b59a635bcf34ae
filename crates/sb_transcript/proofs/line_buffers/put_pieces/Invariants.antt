use Rattle.std.proofs.Common.{◌≡◌, ◌++◌, length}
use Rattle.sb_outside.specs.Outside.{GrowsUpTo}
use Rattle.sb_transcript.specs.LineBuffers.{total}
use Rattle.sb_transcript.proofs.line_buffers.put_pieces.Given as goal

-- all is written except what is pending and the rest, and the lengths that are left are those of the rest
abbrev pub invariant-loop-count : goal.invariant-loop-count
invariant-loop-count g l =
    GrowsUpTo (g.S.Sink.written l.fn.sink) (g.S.Sink.pending l.fn.sink ++ l.bytes) (g.S.Sink.written l.sink) (g.S.Sink.pending l.sink ++ l.rest)
    × (total l.lengths ≡ length l.rest)
    × (g.S.Sink.faults l.sink ≡ g.S.Sink.faults l.fn.sink)

abbrev pub decreases-loop-count : goal.decreases-loop-count
decreases-loop-count g l = length l.lengths
