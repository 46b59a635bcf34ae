use Rattle.std.proofs.Common.{◌≡◌, ◌-◌, ◌≤◌, length}
use Rattle.sb_transcript.specs.Reading.{words_within}
use Rattle.sb_transcript.proofs.Words.{with_words}
use Rattle.sb_transcript.proofs.reading_replies.words_of.Given as goal

-- the words that were read and those that follow are those of the fields
abbrev pub invariant-loop-field : goal.invariant-loop-field
invariant-loop-field l = (length l.words ≤ 7) × (with_words l.words (words_within (7 - length l.words) l.fields) ≡ words_within 7 l.fn.fields)

abbrev pub decreases-loop-field : goal.decreases-loop-field
decreases-loop-field l = length l.fields
