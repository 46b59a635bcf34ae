use Rattle.std.proofs.Common.{◌≡◌, ◌++◌, drop, length}
use Rattle.sb_transcript.specs.LineBuffers.{cut_by, total}
use Rattle.sb_transcript.specs.Transcripts.{result_lines}
use Rattle.sb_transcript.proofs.transcripts.put_result_lines.Given as goal

abbrev pub invariant-loop-target : goal.invariant-loop-target
invariant-loop-target l =
    (cut_by l.lengths.items l.bytes.items ++ result_lines l.script l.target (drop l.target l.targets)
    ≡ cut_by l.initial.lengths.items l.initial.bytes.items ++ result_lines l.script 0 l.targets)
    × (total l.lengths.items ≡ length l.bytes.items)
