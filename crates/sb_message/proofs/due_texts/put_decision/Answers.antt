use Rattle.sb_message.proofs.due_texts.put_decision.Goals as goal

pub returns : goal.returns
returns g = g.put_judged.ensures
