use Rattle.std.proofs.Common.{◌≡◌, length}
use Rattle.sb_text.specs.Tokens.{Between, by_words, scan, words_of}
use Rattle.sb_text.proofs.words.without_blanks.Given as goal

abbrev pub invariant-loop-first : goal.invariant-loop-first
invariant-loop-first l = scan by_words (Between (length l.bytes)) l.rest ≡ words_of l.bytes

abbrev pub decreases-loop-first : goal.decreases-loop-first
decreases-loop-first l = length l.rest
