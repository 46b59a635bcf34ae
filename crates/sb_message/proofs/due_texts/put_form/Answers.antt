use Rattle.sb_message.proofs.due_texts.put_form.Goals as goal

pub returns-in-LineFeed : goal.returns-in-LineFeed
returns-in-LineFeed c = rw c.in-LineFeed.is c.put_words.ensures

pub returns-in-End : goal.returns-in-End
returns-in-End c = rw c.in-End.is c.put_words-in-End.ensures
