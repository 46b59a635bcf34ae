use Rattle.sb_commands.proofs.CleanUsage.{usage_messages_clean}
use Rattle.sb_commands.proofs.laws.usage_messages_are_clean.Goals as goal

pub returns : goal.returns
returns c = usage_messages_clean
