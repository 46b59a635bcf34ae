use Rattle.sb_message.proofs.audit_messages.put_audit_first_line.Goals as goal

pub returns : goal.returns
returns c = c.put_refuted.ensures
