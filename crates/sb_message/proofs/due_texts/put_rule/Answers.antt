use Rattle.sb_message.proofs.due_texts.put_rule.Goals as goal

pub returns-in-FittingArgs : goal.returns-in-FittingArgs
returns-in-FittingArgs c = rw c.in-FittingArgs.is c.put_words.ensures

pub returns-in-Decided : goal.returns-in-Decided
returns-in-Decided c = rw c.in-Decided.is c.put_verdict.ensures

pub returns-in-RuleOn : goal.returns-in-RuleOn
returns-in-RuleOn c = rw c.in-RuleOn.is c.put_no_rule.ensures

pub returns-in-Without : goal.returns-in-Without
returns-in-Without c = rw c.in-Without.is c.put_bits.ensures
