use Rattle.sb_message.proofs.CleanMessages.{messages_clean}
use Rattle.sb_message.proofs.message_laws.messages_are_clean.Goals as goal

pub returns : goal.returns
returns c = messages_clean c.usage_messages_are_clean.ensures
