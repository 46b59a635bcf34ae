use Rattle.std.proofs.Common.{◌≡◌, drop}
use Rattle.sb_call.specs.CallWords.{call_word, every_tag, named}
use Rattle.sb_call.proofs.call_words.tag_of_word.Given as goal

abbrev pub invariant-loop-tag : goal.invariant-loop-tag
invariant-loop-tag l = named call_word (drop l.tag-index every_tag) l.word ≡ named call_word every_tag l.word
