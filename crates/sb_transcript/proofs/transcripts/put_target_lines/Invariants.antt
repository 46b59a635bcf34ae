use Rattle.std.proofs.Common.{◌≡◌, ◌++◌, drop, length}
use Rattle.sb_transcript.specs.LineBuffers.{cut_by, total}
use Rattle.sb_transcript.specs.Transcripts.{target_lines}
use Rattle.sb_transcript.proofs.transcripts.put_target_lines.Given as goal

abbrev pub invariant-loop-thread : goal.invariant-loop-thread
invariant-loop-thread l =
    (cut_by l.lengths.items l.bytes.items ++ target_lines l.script l.target l.thread (drop l.thread l.threads)
    ≡ cut_by l.initial.lengths.items l.initial.bytes.items ++ target_lines l.script l.target 0 l.threads)
    × (total l.lengths.items ≡ length l.bytes.items)
