use Rattle.sb_scripttext.proofs.schedule_texts.ScheduleGrammarTextGrammarByteLines.version.Goals as goal

pub returns : goal.returns
returns c = rw c.words.ensures at c.version_in_words.ensures
