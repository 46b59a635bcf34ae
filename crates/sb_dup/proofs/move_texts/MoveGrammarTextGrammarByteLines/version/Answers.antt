use Rattle.sb_dup.proofs.move_texts.MoveGrammarTextGrammarByteLines.version.Goals as goal

pub returns : goal.returns
returns c = rw c.words.ensures at c.version_in_words.ensures
