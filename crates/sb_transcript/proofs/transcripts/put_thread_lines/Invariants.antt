use Rattle.std.proofs.Common.{◌≡◌, ◌++◌, drop, length}
use Rattle.sb_transcript.specs.LineBuffers.{cut_by, total}
use Rattle.sb_transcript.specs.Transcripts.{thread_lines}
use Rattle.sb_transcript.proofs.transcripts.put_thread_lines.Given as goal

abbrev pub invariant-loop-place : goal.invariant-loop-place
invariant-loop-place l =
    (cut_by l.lengths.items l.bytes.items ++ thread_lines l.script l.target l.thread l.place (drop l.place l.results)
    ≡ cut_by l.initial.lengths.items l.initial.bytes.items ++ thread_lines l.script l.target l.thread 0 l.results)
    × (total l.lengths.items ≡ length l.bytes.items)
