use Rattle.std.proofs.Common.{◌≡◌, ◌++◌, drop}
use Rattle.sb_transcript.specs.CommaWords.{more_words}
use Rattle.sb_transcript.proofs.comma_words.put_more_words.Given as goal

abbrev pub invariant-loop-word : goal.invariant-loop-word
invariant-loop-word l =
    l.line.items ++ more_words (drop l.word-index l.words) ≡ l.initial.line.items ++ more_words l.words
