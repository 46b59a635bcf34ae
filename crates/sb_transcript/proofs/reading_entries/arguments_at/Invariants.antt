use Rattle.std.proofs.Common.{◌≡◌, length}
use Rattle.sb_transcript.specs.Reading.{arguments_at}
use Rattle.sb_transcript.proofs.Arguments.{with_arguments}
use Rattle.sb_transcript.proofs.reading_entries.arguments_at.Given as goal

-- the arguments that were read and those that follow are those of the fields
abbrev pub invariant-loop-field : goal.invariant-loop-field
invariant-loop-field l = with_arguments l.args (arguments_at l.fields) ≡ arguments_at l.fn.fields

abbrev pub decreases-loop-field : goal.decreases-loop-field
decreases-loop-field l = length l.fields
