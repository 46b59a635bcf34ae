use Rattle.sb_top.proofs.AllCommands.{statuses_are_of_commands}
use Rattle.sb_top.proofs.laws.statuses_are_of_commands.Goals as goal

pub returns : goal.returns
returns g c = statuses_are_of_commands _ _
